use Rattle.exchange_model.proofs.Indexed.{firsts_more}
use Rattle.exchange_model.proofs.index.firsts_of.Goals as goal

pub loop-block-preserved : goal.loop-block-preserved
loop-block-preserved c =
    firsts_more c.args.blocks.now c.loop-block.firsts c.push.new.self c.loop-block.block-index c.loop-block.cell
    c.cells-cell.result c.block-item.result c.loop-block-test.true c.block-item.is c.in_ok-push.ensures
    c.cells-cell.ensures c.loop-block.invariant
