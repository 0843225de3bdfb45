use Rattle.fact_flows.proofs.Gathering.{Gathers}
use Rattle.certificate_faults.specs.Returned.{WayReturns}
use Rattle.certificate_faults.proofs.returned.push_ways.Given as goal

abbrev pub invariant-loop-way : goal.invariant-loop-way
invariant-loop-way g l = Gathers (WayReturns l.exchange (g.K.KnownFacts.knows l.known) l.fact.entry l.fact.point) l.ways l.fn.given l.way-index l.given
