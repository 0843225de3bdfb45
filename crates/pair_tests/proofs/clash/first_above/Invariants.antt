use Rattle.std.proofs.Common.{take}
use Rattle.pair_tests.specs.Clashes.{ClashesAbove, IsLeastConflict}
use Rattle.pair_tests.proofs.clash.first_above.Given as goal

abbrev pub invariant-loop-level : goal.invariant-loop-level
invariant-loop-level l = IsLeastConflict (ClashesAbove (take l.level-index l.levels) l.later) l.least
