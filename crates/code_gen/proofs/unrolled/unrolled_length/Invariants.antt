use Rattle.std.proofs.Common.{◌≡◌, ◌+◌, drop, map}
use Rattle.exchange_model.specs.Inside.{total}
use Rattle.code_gen.specs.Unrolled.{block_unrolled, unrolled_length}
use Rattle.code_gen.proofs.unrolled.unrolled_length.Given as goal

abbrev pub invariant-loop-block : goal.invariant-loop-block
invariant-loop-block l =
    l.sum + total (map (block_unrolled l.exchange) (drop l.block-index l.block-items)) ≡ unrolled_length l.exchange
