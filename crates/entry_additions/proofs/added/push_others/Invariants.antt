use Rattle.std.proofs.Common.{map}
use Rattle.flow_table.specs.Texts.{seen}
use Rattle.entry_accesses.specs.Adding.{Adds}
use Rattle.conflict_rows.proofs.Loops.{GivenBelow}
use Rattle.entry_additions.specs.Others.{IsOtherAt}
use Rattle.entry_additions.proofs.added.push_others.Given as goal

abbrev pub invariant-loop-place : goal.invariant-loop-place
invariant-loop-place l = Adds l.fn.others l.others (GivenBelow (IsOtherAt l.exchange (map seen l.places) l.accesses l.kind) l.rows l.place)
