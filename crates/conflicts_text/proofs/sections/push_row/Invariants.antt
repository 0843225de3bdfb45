use Rattle.std.proofs.Common.{◌≡◌, ◌++◌, map}
use Rattle.std.specs.List.{range_with_len}
use Rattle.conflicts_meaning.specs.Told.{pair_at}
use Rattle.conflicts_text.proofs.sections.push_row.Given as goal

abbrev pub invariant-loop-later : goal.invariant-loop-later
invariant-loop-later l = l.made ≡ l.fn.made ++ map (pair_at l.first) (range_with_len 0 l.later)
