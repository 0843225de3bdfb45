use Rattle.fact_flows.specs.Flows.{StartsIn}
use Rattle.fact_flows.proofs.Gathering.{Gathers}
use Rattle.fact_flows.proofs.start.push_starts.Given as goal

abbrev pub invariant-loop-slot : goal.invariant-loop-slot
invariant-loop-slot g l = Gathers (StartsIn (g.K.KnownFacts.knows l.known) l.entry l.point l.count) l.slots l.fn.facts l.slot-index l.facts
