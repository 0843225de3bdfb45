use Rattle.fact_rows.proofs.Keying.{numbered_begin, numbered_end, numbered_more}
use Rattle.fact_rows.proofs.point_facts.push_numbered.Goals as goal

pub loop-number-init : goal.loop-number-init
loop-number-init c = numbered_begin c.args.entry c.args.point c.args.grid.now c.args.numbered c.args.facts.now.items

pub loop-number-preserved : goal.loop-number-preserved
loop-number-preserved c =
    numbered_more c.args.entry c.args.point c.args.grid.now c.args.numbered c.loop-number.number c.slot_of.result
    c.key.result c.args.facts.now.items c.loop-number.facts.items c.push_slot.new.facts.items
    c.slot_of.ensures c.key.ensures c.loop-number.invariant c.in_ok-push_slot.ensures

pub returns : goal.returns
returns c = numbered_end c.args.entry c.args.point c.args.grid.now c.args.numbered c.loop-number.number c.args.count
    c.args.facts.now.items c.loop-number.facts.items c.loop-number.auto.number-end c.loop-number-test.false
    c.loop-number.invariant
