use Rattle.certificate_faults.proofs.Firsts.{NoneYet}
use Rattle.certificate_faults.proofs.strange.first_strange.Given as goal

abbrev pub invariant-loop-fact : goal.invariant-loop-fact
invariant-loop-fact l = NoneYet l.exchange l.facts l.fact-index
