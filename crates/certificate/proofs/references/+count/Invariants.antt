use Rattle.certificate.proofs.Counts.{ChoicesGo, ListGoes}
use Rattle.certificate.proofs.references.+count.Given as goal

abbrev pub invariant-in_choices-loop-when : goal.invariant-in_choices-loop-when
invariant-in_choices-loop-when l = ChoicesGo l.whens l.when-index l.count

abbrev pub invariant-in_list-loop-statement : goal.invariant-in_list-loop-statement
invariant-in_list-loop-statement l = ListGoes l.list l.statement-index l.count
