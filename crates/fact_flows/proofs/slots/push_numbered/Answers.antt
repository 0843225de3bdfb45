use Rattle.fact_flows.proofs.Slotting.{numbered_more}
use Rattle.fact_flows.proofs.slots.push_numbered.Goals as goal

pub loop-number-preserved : goal.loop-number-preserved
loop-number-preserved c = numbered_more c.args.numbered c.loop-number.number c.slot_of.result c.args.slots.now
    c.loop-number.slots c.push.new.self c.slot_of.ensures c.in_ok-push.ensures c.loop-number.invariant
