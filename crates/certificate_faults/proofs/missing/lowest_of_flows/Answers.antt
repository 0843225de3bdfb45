use Rattle.fact_flows.specs.Flows.{FlowsTo}
use Rattle.certificate_faults.proofs.Lowered.{lowers_begin, lowers_end, lowers_misses, lowers_more}
use Rattle.certificate_faults.proofs.missing.lowest_of_flows.Goals as goal

pub loop-to-init : goal.loop-to-init
loop-to-init g c = lowers_begin (g.K.KnownFacts.knows c.args.known.now)
    (FlowsTo c.args.exchange.now (g.K.KnownFacts.knows c.args.known.now) c.args.flow.now.entry c.args.flow.now.point
    c.args.flow.now.how.now) c.args.ends.now c.args.first c.requires.missing

pub lowest_of_flow-requires-clause-missing : goal.lowest_of_flow-requires-clause-missing
lowest_of_flow-requires-clause-missing g c = lowers_misses (g.K.KnownFacts.knows c.args.known.now)
    (FlowsTo c.args.exchange.now (g.K.KnownFacts.knows c.args.known.now) c.args.flow.now.entry c.args.flow.now.point
    c.args.flow.now.how.now) c.args.ends.now c.args.first c.loop-to.to-index c.loop-to.least c.loop-to.invariant

pub loop-to-preserved : goal.loop-to-preserved
loop-to-preserved g c =
    lowers_more (g.K.KnownFacts.knows c.args.known.now)
    (FlowsTo c.args.exchange.now (g.K.KnownFacts.knows c.args.known.now) c.args.flow.now.entry c.args.flow.now.point
    c.args.flow.now.how.now) c.args.ends.now c.args.first c.loop-to.to-index _ c.loop-to.least c.in_ok-least.least
    c.loop-to-test.true c.in_ok-least.ensures c.loop-to.invariant

pub returns : goal.returns
returns g c = lowers_end (g.K.KnownFacts.knows c.args.known.now)
    (FlowsTo c.args.exchange.now (g.K.KnownFacts.knows c.args.known.now) c.args.flow.now.entry c.args.flow.now.point
    c.args.flow.now.how.now) c.args.ends.now c.args.first c.loop-to.to-index c.loop-to.least c.loop-to-test.false
    c.loop-to.invariant
