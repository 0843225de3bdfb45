use Rattle.std.proofs.Common.{rules, refl, []}
use Rattle.entry_accesses.specs.Numbered.{variable_count}
use Rattle.entry_accesses.proofs.Numbering.{sums_new, sums_more, sums_small_new, sums_end}
use Rattle.entry_accesses.proofs.numbers.first_variables.Goals as goal

pub loop-block-init : goal.loop-block-init
loop-block-init c = sums_new variable_count c.args.blocks.now c.new-firsts.result c.new-firsts.ensures

pub overflow_cast-first : goal.overflow_cast-first
overflow_cast-first c =
    let small = sums_small_new variable_count c.args.blocks.now c.loop-block.block-index c.loop-block.first c.len.result
    c.block-item.result [] c.loop-block.firsts c.loop-block-test.true c.block-item.is c.len.ensures c.requires
    c.loop-block.invariant in
    search (rules, small)

pub overflow_add-first : goal.overflow_add-first
overflow_add-first c =
    let small = sums_small_new variable_count c.args.blocks.now c.loop-block.block-index c.loop-block.first c.len.result
    c.block-item.result [] c.loop-block.firsts c.loop-block-test.true c.block-item.is c.len.ensures c.requires
    c.loop-block.invariant in
    search (rules, small)

pub loop-block-preserved : goal.loop-block-preserved
loop-block-preserved c =
    sums_more variable_count c.args.blocks.now c.loop-block.block-index c.loop-block.first 0 _ c.len.result
    c.block-item.result [] c.loop-block.firsts c.push.new.self c.loop-block-test.true c.block-item.is c.len.ensures
    refl c.in_ok-push.ensures c.loop-block.invariant

pub returns : goal.returns
returns c = sums_end variable_count c.args.blocks.now c.loop-block.block-index c.loop-block.first 0 []
    c.loop-block.firsts c.loop-block-test.false c.loop-block.invariant
