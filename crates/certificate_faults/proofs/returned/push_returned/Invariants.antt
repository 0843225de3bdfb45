use Rattle.fact_flows.proofs.Gathering.{Gathers}
use Rattle.certificate_faults.specs.Returned.{returned_at}
use Rattle.certificate_faults.proofs.returned.push_returned.Given as goal

abbrev pub invariant-loop-fact : goal.invariant-loop-fact
invariant-loop-fact g l = Gathers (returned_at l.exchange l.table (g.K.KnownFacts.knows l.known)) l.reached l.fn.given l.fact-index l.given
