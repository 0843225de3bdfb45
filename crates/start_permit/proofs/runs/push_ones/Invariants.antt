use Rattle.std.proofs.Common.{◌≡◌, ◌++◌, map, take}
use Rattle.start_permit.specs.Recorded.{one_run}
use Rattle.start_permit.proofs.runs.push_ones.Given as goal

abbrev pub invariant-loop-number : goal.invariant-loop-number
invariant-loop-number l = l.runs ≡ l.fn.runs ++ map one_run (take l.number-index l.numbers)
