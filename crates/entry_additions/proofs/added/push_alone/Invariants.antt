use Rattle.entry_accesses.specs.Adding.{Adds}
use Rattle.conflict_rows.proofs.Loops.{GivenBelow}
use Rattle.entry_additions.specs.Others.{IsAlone}
use Rattle.entry_additions.proofs.added.push_alone.Given as goal

abbrev pub invariant-loop-place : goal.invariant-loop-place
invariant-loop-place l = Adds l.fn.added l.added (GivenBelow (IsAlone l.others l.kind) l.accesses l.place)
