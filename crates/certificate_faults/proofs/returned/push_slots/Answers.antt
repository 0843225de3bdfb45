use Rattle.std.proofs.Common.{Contains}
use Rattle.fact_flows.proofs.Gathering.{gather_begin, gather_end, gather_more}
use Rattle.certificate_faults.specs.Returned.{handed}
use Rattle.certificate_faults.proofs.returned.push_slots.Goals as goal

pub loop-slot-init : goal.loop-slot-init
loop-slot-init c = gather_begin (handed (Contains c.args.joined.now) c.args.entry c.args.answer c.args.point) c.args.slots.now c.args.given.now

pub loop-slot-preserved : goal.loop-slot-preserved
loop-slot-preserved c = gather_more (handed (Contains c.args.joined.now) c.args.entry c.args.answer c.args.point)
    c.args.slots.now c.loop-slot.slot-index _ c.args.given.now c.loop-slot.given c.push_given.new.facts
    c.loop-slot-test.true c.in_ok-push_given.ensures c.loop-slot.invariant

pub returns : goal.returns
returns c = gather_end (handed (Contains c.args.joined.now) c.args.entry c.args.answer c.args.point) c.args.slots.now
    c.loop-slot.slot-index c.args.given.now c.loop-slot.given c.loop-slot-test.false c.loop-slot.invariant
