use Rattle.std.proofs.Common.{◌≤◌, ◌-◌, length, take}
use Rattle.pair_tests.specs.Asked.{Asked, AddsTests}
use Rattle.pair_tests.proofs.asking.push_fields.Given as goal

abbrev pub invariant-loop-place : goal.invariant-loop-place
invariant-loop-place l = (l.place ≤ length l.ones) × AddsTests (Asked (take l.place l.ones) l.others) l.fn.tests l.tests

abbrev pub decreases-loop-place : goal.decreases-loop-place
decreases-loop-place l = length l.ones - l.place
