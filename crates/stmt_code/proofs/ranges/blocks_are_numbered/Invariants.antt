use Rattle.std.proofs.Common.{◌^◌, take}
use Rattle.std.specs.Prelude.{All}
use Rattle.stmt_code.specs.Numbers.{AreBelow}
use Rattle.stmt_code.proofs.ranges.blocks_are_numbered.Given as goal

abbrev pub invariant-loop-block : goal.invariant-loop-block
invariant-loop-block l = All (AreBelow (2 ^ 32)) (take l.block-index l.block-items)
