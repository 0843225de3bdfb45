use Rattle.std.proofs.Common.{length}
use Rattle.entry_accesses.specs.Adding.{Adds}
use Rattle.conflict_rows.specs.Points.{LevelAt}
use Rattle.conflict_rows.proofs.Loops.{GivenBelow}
use Rattle.conflict_rows.proofs.given.push_levels.Given as goal

abbrev pub invariant-loop-place : goal.invariant-loop-place
invariant-loop-place l = Adds l.fn.rows l.rows (GivenBelow (LevelAt (length l.all) l.sent l.point) l.levels l.place)
