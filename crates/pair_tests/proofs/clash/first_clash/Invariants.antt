use Rattle.std.proofs.Common.{◌≤◌, ◌-◌, length, take}
use Rattle.pair_tests.specs.Clashes.{Clashes, IsLeastConflict}
use Rattle.pair_tests.proofs.clash.first_clash.Given as goal

abbrev pub invariant-loop-place : goal.invariant-loop-place
invariant-loop-place l = (l.place ≤ length l.ones) × IsLeastConflict (Clashes (take l.place l.ones) l.others) l.least

abbrev pub decreases-loop-place : goal.decreases-loop-place
decreases-loop-place l = length l.ones - l.place
