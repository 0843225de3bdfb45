use Rattle.flow_table.proofs.Walking.{ListGoes, ChoicesGo}
use Rattle.flow_table.proofs.walk.+walk.Given as goal

abbrev pub invariant-add_choices-loop-when : goal.invariant-add_choices-loop-when
invariant-add_choices-loop-when l = ChoicesGo l.block l.next l.whens l.fn.places l.when-index l.places

abbrev pub invariant-add_list-loop-i : goal.invariant-add_list-loop-i
invariant-add_list-loop-i l = ListGoes l.block l.list l.end l.fn.places l.i l.places
