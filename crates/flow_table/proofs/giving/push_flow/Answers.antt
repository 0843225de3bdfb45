use Rattle.std.proofs.Common.{refl}
use Rattle.flow_table.proofs.Handing.{flow_begin, flow_item, flow_end}
use Rattle.flow_table.proofs.giving.push_flow.Goals as goal

pub loop-slot-init : goal.loop-slot-init
loop-slot-init g c = flow_begin (g.K.KnownFacts.knows c.args.known.now) c.args.entry c.args.from c.args.how.now
    c.args.to c.args.slots.now c.args.facts.now c.args.facts.now refl

pub loop-slot-preserved : goal.loop-slot-preserved
loop-slot-preserved g c =
    flow_item (g.K.KnownFacts.knows c.args.known.now) c.args.entry c.args.from c.args.how.now c.args.to c.args.slots.now
    c.loop-slot.slot-index _ c.source_over.result c.args.facts.now c.loop-slot.facts c.push_given.new.facts
    c.loop-slot-test.true c.source_over.ensures c.in_ok-push_given.ensures c.loop-slot.invariant

pub returns : goal.returns
returns g c = flow_end (g.K.KnownFacts.knows c.args.known.now) c.args.entry c.args.from c.args.how.now c.args.to
    c.args.slots.now c.loop-slot.slot-index c.args.facts.now c.loop-slot.facts c.loop-slot-test.false
    c.loop-slot.invariant
