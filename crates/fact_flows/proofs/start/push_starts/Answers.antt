use Rattle.fact_flows.specs.Flows.{StartsIn}
use Rattle.fact_flows.proofs.Flowing.{starts_more}
use Rattle.fact_flows.proofs.Gathering.{gather_begin, gather_end}
use Rattle.fact_flows.proofs.start.push_starts.Goals as goal

pub loop-slot-init : goal.loop-slot-init
loop-slot-init g c = gather_begin (StartsIn (g.K.KnownFacts.knows c.args.known.now) c.args.entry c.args.point c.args.count) c.args.slots.now c.args.facts.now

pub loop-slot-preserved : goal.loop-slot-preserved
loop-slot-preserved g c =
    starts_more (g.K.KnownFacts.knows c.args.known.now) c.args.entry c.args.point c.args.count c.args.slots.now
    c.loop-slot.slot-index _ c.start_source-source.result c.args.facts.now c.loop-slot.facts c.push_given.new.facts
    c.loop-slot-test.true c.start_source-source.ensures c.in_ok-push_given.ensures c.loop-slot.invariant

pub returns : goal.returns
returns g c = gather_end (StartsIn (g.K.KnownFacts.knows c.args.known.now) c.args.entry c.args.point c.args.count)
    c.args.slots.now c.loop-slot.slot-index c.args.facts.now c.loop-slot.facts c.loop-slot-test.false
    c.loop-slot.invariant
