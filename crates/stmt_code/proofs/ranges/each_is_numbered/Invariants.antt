use Rattle.std.proofs.Common.{◌^◌, take}
use Rattle.std.specs.Prelude.{All}
use Rattle.stmt_code.specs.Numbers.{IsBelow}
use Rattle.stmt_code.proofs.ranges.each_is_numbered.Given as goal

abbrev pub invariant-loop-file : goal.invariant-loop-file
invariant-loop-file l = All (IsBelow (2 ^ 32)) (take l.file-index l.file-items)
