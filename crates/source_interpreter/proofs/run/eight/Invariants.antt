use Rattle.std.proofs.Common.{◌≡◌, ◌-◌, ◌++◌, take, replicate}
use Rattle.plex_limits.specs.declared.limits.TheConstants.{MOST_VALUES}
use Rattle.source_interpreter.proofs.run.eight.Given as goal

abbrev pub invariant-loop-place : goal.invariant-loop-place
invariant-loop-place l = l.eight ≡ take l.place l.values ++ replicate (MOST_VALUES - l.place) 0
