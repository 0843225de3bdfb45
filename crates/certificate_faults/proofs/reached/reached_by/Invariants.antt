use Rattle.certificate_faults.proofs.Standing.{Reaches}
use Rattle.certificate_faults.proofs.reached.reached_by.Given as goal

abbrev pub invariant-loop-fact : goal.invariant-loop-fact
invariant-loop-fact l = Reaches l.facts l.fact-index l.last l.reached
