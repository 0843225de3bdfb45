use Rattle.std.proofs.Common.{subst, None}
use Rattle.flow_table.specs.Texts.{HasMore, Walked}
use Rattle.flow_table.proofs.Walking.{blocks_more, blocks_end}
use Rattle.flow_table.proofs.walk.add_blocks.Goals as goal

pub loop-number-preserved : goal.loop-number-preserved
loop-number-preserved c =
    let added = subst (λ l. HasMore c.loop-number.places c.add_list.new.places (Walked c.loop-number.number l None))
    c.as_slice.ensures c.in_ok-add_list.ensures in
    blocks_more c.args.blocks.now c.loop-number.number c.index-blocks-number.result c.args.places.now
    c.loop-number.places c.add_list.new.places c.loop-number-test.true c.index-blocks-number.is added
    c.loop-number.invariant

pub returns : goal.returns
returns c = blocks_end c.args.blocks.now c.args.places.now c.loop-number.places c.loop-number.number c.loop-number-test.false c.loop-number.invariant
