use Rattle.fact_flows.specs.Flows.{FlowsTo}
use Rattle.certificate_faults.proofs.Lowered.{Lowers}
use Rattle.certificate_faults.proofs.missing.lowest_of_flows.Given as goal

abbrev pub invariant-loop-to : goal.invariant-loop-to
invariant-loop-to g l = Lowers (g.K.KnownFacts.knows l.known)
    (FlowsTo l.exchange (g.K.KnownFacts.knows l.known) l.flow.entry l.flow.point l.flow.how.now) l.ends l.fn.first
    l.to-index l.least
