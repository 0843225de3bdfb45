use Rattle.entry_accesses.specs.Adding.{Adds}
use Rattle.conflict_rows.specs.Points.{AccessAt}
use Rattle.conflict_rows.proofs.Loops.{GivenBelow}
use Rattle.conflict_rows.proofs.given.push_accesses.Given as goal

abbrev pub invariant-loop-place : goal.invariant-loop-place
invariant-loop-place l = Adds l.fn.rows l.rows (GivenBelow (AccessAt l.all l.point) l.accesses l.place)
