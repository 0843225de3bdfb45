use Rattle.std.proofs.Common.{take}
use Rattle.pair_tests.specs.Clashes.{ClashesWith, IsLeastConflict}
use Rattle.pair_tests.proofs.clash.first_among.Given as goal

abbrev pub invariant-loop-other : goal.invariant-loop-other
invariant-loop-other l = IsLeastConflict (ClashesWith l.one (take l.other-index l.others)) l.least
