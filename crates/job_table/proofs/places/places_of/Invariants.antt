use Rattle.std.proofs.Common.{take}
use Rattle.job_table.specs.Places.{ArePlaces}
use Rattle.job_table.proofs.places.places_of.Given as goal

abbrev pub invariant-loop-place : goal.invariant-loop-place
invariant-loop-place l = ArePlaces l.places (take l.place l.lines)
