use Rattle.std.proofs.Common.{◌≤◌, ◌-◌, length}
use Rattle.entry_accesses.specs.Adding.{Adds}
use Rattle.conflict_rows.specs.Near.{IsOfFirst}
use Rattle.conflict_rows.proofs.Loops.{GivenBelow}
use Rattle.conflict_rows.proofs.clashes.push_of_first.Given as goal

abbrev pub invariant-loop-place : goal.invariant-loop-place
invariant-loop-place l = (l.place ≤ length l.ones) × Adds l.fn.rows l.rows (GivenBelow (IsOfFirst l.others) l.ones l.place)

abbrev pub decreases-loop-place : goal.decreases-loop-place
decreases-loop-place l = length l.ones - l.place
