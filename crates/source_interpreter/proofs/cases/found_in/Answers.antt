use Rattle.source_interpreter.specs.Cases.{BlockKnown}
use Rattle.source_interpreter.proofs.Gathering.{block_gathered, gathered_more}
use Rattle.source_interpreter.proofs.cases.found_in.Goals as goal

pub loop-block-preserved : goal.loop-block-preserved
loop-block-preserved c =
    gathered_more BlockKnown c.args.blocks.now c.loop-block.block-index c.block-item.result _ c.loop-block.found
    c.find_in.new.found c.loop-block-test.true c.block-item.is c.loop-block.invariant
    (block_gathered c.block-item.result c.loop-block.found c.find_in.new.found c.in_ok-find_in.ensures)
