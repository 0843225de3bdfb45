use Rattle.entry_accesses.proofs.Numbering.{fields_begin, fields_more, fields_small, fields_end}
use Rattle.entry_accesses.proofs.numbers.first_fields.Goals as goal

pub loop-block-init : goal.loop-block-init
loop-block-init c = fields_begin c.args.blocks.now c.new-firsts.result c.new-firsts.ensures

pub push_firsts-requires : goal.push_firsts-requires
push_firsts-requires c = fields_small c.args.blocks.now c.loop-block.block-index c.loop-block.first c.block-item.result
    c.as_slice.result.now c.loop-block.firsts c.loop-block-test.true c.block-item.is c.as_slice.ensures c.requires
    c.loop-block.invariant

pub loop-block-preserved : goal.loop-block-preserved
loop-block-preserved c =
    fields_more c.args.blocks.now c.loop-block.block-index c.loop-block.first c.in_ok-first.first c.block-item.result
    c.as_slice.result.now c.loop-block.firsts c.push_firsts.new.firsts c.loop-block-test.true c.block-item.is
    c.as_slice.ensures c.in_ok-first.ensures.next c.in_ok-first.ensures.list c.loop-block.invariant

pub returns : goal.returns
returns c = fields_end c.args.blocks.now c.loop-block.block-index c.loop-block.first c.loop-block.firsts c.loop-block-test.false c.loop-block.invariant
