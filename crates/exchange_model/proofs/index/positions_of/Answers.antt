use Rattle.std.proofs.Common.{◌≡◌, ◌+◌, ◌++◌, length, sum_by}
use Rattle.exchange_model.specs.declared.block.Block.{Block}
use Rattle.exchange_model.specs.Cells.{file_cells}
use Rattle.exchange_model.specs.Index.{positions_in}
use Rattle.exchange_model.proofs.Indexed.{all_more}
use Rattle.exchange_model.proofs.index.positions_of.Goals as goal

pub loop-number-preserved : goal.loop-number-preserved
loop-number-preserved c =
    let b : Block = c.index-blocks-number.result in
    let listed : c.add_positions.new.positions ≡ c.loop-number.positions
    ++ positions_in c.loop-number.number 0 (c.loop-number.cell + length b.variables) b.files =
    cc (c.in_ok-cell.ensures.positions) in
    let next : c.in_ok-cell.cell ≡ c.loop-number.cell + length b.variables + sum_by file_cells b.files = cc (c.in_ok-cell.ensures.next) in
    all_more c.args.blocks.now c.loop-number.positions c.add_positions.new.positions c.loop-number.number
    c.loop-number.cell c.in_ok-cell.cell b c.loop-number-test.true c.index-blocks-number.is listed next
    c.loop-number.invariant
