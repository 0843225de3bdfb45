use Rattle.std.proofs.Common.{◌≡◌, take}
use Rattle.exchange_model.specs.Names.{names_of_blocks}
use Rattle.block_change.proofs.directory.block_names.Given as goal

abbrev pub invariant-loop-block : goal.invariant-loop-block
invariant-loop-block l = l.names ≡ names_of_blocks (take l.block-index l.blocks)
