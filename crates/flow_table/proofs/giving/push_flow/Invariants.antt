use Rattle.flow_table.proofs.Handing.{FlowGoes}
use Rattle.flow_table.proofs.giving.push_flow.Given as goal

abbrev pub invariant-loop-slot : goal.invariant-loop-slot
invariant-loop-slot g l = FlowGoes (g.K.KnownFacts.knows l.known) l.entry l.from l.how l.to l.slots l.fn.facts l.slot-index l.facts
