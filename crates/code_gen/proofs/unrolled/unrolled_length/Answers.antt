use Rattle.code_gen.specs.Unrolled.{block_unrolled}
use Rattle.code_gen.proofs.UnrolledSteps.{sum_more}
use Rattle.code_gen.proofs.unrolled.unrolled_length.Goals as goal

pub loop-block-preserved : goal.loop-block-preserved
loop-block-preserved c =
    sum_more (block_unrolled c.args.exchange.now) c.as_slice-block-items.result.now c.loop-block.block-index
    c.block-item.result c.in_ok-more.more c.loop-block.sum c.in_ok-sum.sum _ c.loop-block-test.true c.block-item.is
    c.in_ok-more.ensures c.in_ok-sum.ensures c.loop-block.invariant
