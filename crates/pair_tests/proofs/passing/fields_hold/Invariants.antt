use Rattle.std.proofs.Common.{◌≤◌, ◌-◌, length, take}
use Rattle.pair_tests.specs.Asked.{AllHold, Asked}
use Rattle.pair_tests.proofs.passing.fields_hold.Given as goal

abbrev pub invariant-loop-place : goal.invariant-loop-place
invariant-loop-place l = (l.place ≤ length l.ones) × AllHold (Asked (take l.place l.ones) l.others) l.a l.b

abbrev pub decreases-loop-place : goal.decreases-loop-place
decreases-loop-place l = length l.ones - l.place
