use Rattle.std.proofs.Common.{◌≡◌, ◌++◌, map}
use Rattle.std.specs.List.{range_with_len}
use Rattle.conflicts_meaning.specs.declared.rows.Section.TheVariants.{Entry}
use Rattle.conflicts_text.proofs.sections.push_entries.Given as goal

abbrev pub invariant-loop-number : goal.invariant-loop-number
invariant-loop-number l = l.made ≡ l.fn.made ++ map Entry (range_with_len 0 l.number)
