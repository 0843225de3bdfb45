use Rattle.std.proofs.Common.{rules, refl}
use Rattle.start_permit.proofs.Tabled.{words_end, words_fit, words_more, words_new}
use Rattle.start_permit.proofs.table.words_of_variables.Goals as goal

pub loop-block-init : goal.loop-block-init
loop-block-init c = words_new c.args.blocks.now c.new-words.result c.new-words.ensures

pub overflow_cast-count : goal.overflow_cast-count
overflow_cast-count c =
    let fit = words_fit c.args.blocks.now c.loop-block.block-index c.loop-block.cell c.block-item.result
    c.loop-block.words c.loop-block-test.true c.block-item.is c.requires c.loop-block.invariant in
    let many = fit.variables in
    search (rules, many)

pub push_range-requires : goal.push_range-requires
push_range-requires c =
    let fit = words_fit c.args.blocks.now c.loop-block.block-index c.loop-block.cell c.block-item.result
    c.loop-block.words c.loop-block-test.true c.block-item.is c.requires c.loop-block.invariant in
    let many = fit.variables in
    search (rules, many)

pub cells-cell-requires : goal.cells-cell-requires
cells-cell-requires c =
    let fit = words_fit c.args.blocks.now c.loop-block.block-index c.loop-block.cell c.block-item.result
    c.loop-block.words c.loop-block-test.true c.block-item.is c.requires c.loop-block.invariant in
    fit.cells

pub overflow_add-cell : goal.overflow_add-cell
overflow_add-cell c =
    let fit = words_fit c.args.blocks.now c.loop-block.block-index c.loop-block.cell c.block-item.result
    c.loop-block.words c.loop-block-test.true c.block-item.is c.requires c.loop-block.invariant in
    let next = fit.next in
    search (rules, next)

pub loop-block-preserved : goal.loop-block-preserved
loop-block-preserved c =
    words_more c.args.blocks.now c.loop-block.block-index c.loop-block.cell _ c.len-count.result c.cells-cell.result
    c.block-item.result c.loop-block.words c.push_range.new.words c.loop-block-test.true c.block-item.is
    c.len-count.ensures c.cells-cell.ensures refl c.in_ok-push_range.ensures c.loop-block.invariant

pub returns : goal.returns
returns c = words_end c.args.blocks.now c.loop-block.block-index c.loop-block.cell c.loop-block.words c.loop-block-test.false c.loop-block.invariant
