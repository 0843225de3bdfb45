use Rattle.std.proofs.Common.{◌≡◌, map, take}
use Rattle.block_change.specs.Names.{names_of}
use Rattle.block_change.proofs.directory.all_names.Given as goal

abbrev pub invariant-loop-block : goal.invariant-loop-block
invariant-loop-block l = l.names ≡ map names_of (take l.block-index l.blocks)
