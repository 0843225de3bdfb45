use Rattle.std.proofs.Common.{◌≡◌, List, rules}
use Rattle.std.proofs.lemmas.Grind.{common_steps}
use Rattle.exchange_model.specs.declared.block.Block.{Block}
use Rattle.store_layout.proofs.Laying.{files_fit, laid_end, laid_more}
use Rattle.store_layout.proofs.layout.layout_of.Goals as goal

pub lay_files-requires-clause-fits : goal.lay_files-requires-clause-fits
lay_files-requires-clause-fits c =
    let items : List Block = c.as_slice-block-items.result.now in
    let same : items ≡ c.args.exchange.now.blocks = search (rules, common_steps) in
    files_fit c.args.exchange.now items c.loop-block.block-index c.block-item.result c.as_slice.result.now
    c.kept.ensures same c.loop-block-test.true c.block-item.is c.as_slice.ensures

pub loop-block-preserved : goal.loop-block-preserved
loop-block-preserved c =
    let items : List Block = c.as_slice-block-items.result.now in
    let same : items ≡ c.args.exchange.now.blocks = search (rules, common_steps) in
    laid_more c.loop-block.blocks c.push.new.self c.loop-block.files c.lay_files.new.rows c.loop-block.cells
    c.in_ok-cells.cells c.loop-block.block-index c.len-variables.result c.args.exchange.now.blocks items
    c.block-item.result c.as_slice.result.now same c.loop-block-test.true c.block-item.is c.len-variables.ensures
    c.as_slice.ensures c.in_ok-push.ensures c.in_ok-cells.ensures.rows c.in_ok-cells.ensures.next
    c.loop-block.invariant

pub returns : goal.returns
returns c =
    let items : List Block = c.as_slice-block-items.result.now in
    let same : items ≡ c.args.exchange.now.blocks = search (rules, common_steps) in
    laid_end c.args.exchange.now items c.loop-block.blocks c.loop-block.files c.loop-block.cells
    c.loop-block.block-index c.kept.ensures same c.loop-block-test.false c.loop-block.invariant
