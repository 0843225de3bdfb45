use Rattle.fact_flows.specs.Flows.{FlowsTo}
use Rattle.certificate_faults.proofs.Lowered.{left_out, lowest_of}
use Rattle.certificate_faults.proofs.missing.lowest_of_flow.Goals as goal

pub returns-then-is_before : goal.returns-then-is_before
returns-then-is_before g c =
    left_out (g.K.KnownFacts.knows c.args.known.now)
    (FlowsTo c.args.exchange.now (g.K.KnownFacts.knows c.args.known.now) c.args.flow.now.entry c.args.flow.now.point
    c.args.flow.now.how.now c.args.to) c.args.flow.now.entry c.args.to c.args.least (λ f h. h.entry)
    (λ f h. h.point) c.requires.missing (c.is_before.ensures c.if-is_before.true)

pub returns : goal.returns
returns g c =
    lowest_of (g.K.KnownFacts.knows c.args.known.now)
    (FlowsTo c.args.exchange.now (g.K.KnownFacts.knows c.args.known.now) c.args.flow.now.entry c.args.flow.now.point
    c.args.flow.now.how.now c.args.to) c.args.least c.lowest.result c.new-given.result c.push_flow_to.new.facts
    c.as_slice.result.now c.new-given.ensures c.in_ok-push_flow_to.ensures c.as_slice.ensures c.lowest.ensures
