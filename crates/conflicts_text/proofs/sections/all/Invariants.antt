use Rattle.std.proofs.Common.{◌≡◌, ◌++◌, map}
use Rattle.std.specs.List.{range_with_len}
use Rattle.exchange_model.specs.Inside.{joined}
use Rattle.conflicts_meaning.specs.declared.rows.Section.TheVariants.{Entry}
use Rattle.conflicts_meaning.specs.Told.{pair_row}
use Rattle.conflicts_text.proofs.sections.all.Given as goal

abbrev pub invariant-loop-first : goal.invariant-loop-first
invariant-loop-first l = l.made ≡ map Entry (range_with_len 0 l.count) ++ joined (map (pair_row l.count) (range_with_len 0 l.first))
