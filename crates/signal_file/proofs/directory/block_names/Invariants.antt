use Rattle.std.proofs.Common.{◌≡◌, map, take}
use Rattle.exchange_model.specs.declared.block.Block.{Block}
use Rattle.signal_file.proofs.directory.block_names.Given as goal

abbrev pub invariant-loop-block : goal.invariant-loop-block
invariant-loop-block l = l.names ≡ map (λ (k : Block). k.name) (take l.block-index l.exchange.blocks)
