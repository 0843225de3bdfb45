use Rattle.block_change.proofs.Misfitting.{LackingFrom}
use Rattle.block_change.proofs.misfit.missing_file.Given as goal

abbrev pub invariant-loop-block : goal.invariant-loop-block
invariant-loop-block l = LackingFrom l.new.exchange.now l.blocks l.block-index
