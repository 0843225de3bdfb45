-- The entries of a section exist.
use Rattle.std.specs.Prelude.{ℕ, ◌<◌, List}
use Rattle.std.specs.List.{Contains}
use Rattle.conflicts_meaning.specs.declared.rows.Section.{Section}
use Rattle.conflicts_meaning.specs.declared.rows.Section.TheVariants.{Entry, Pair}

abbrev pub IsWithin : ℕ → Section → Type 0
IsWithin n (Entry e) = e < n
IsWithin n (Pair p) = (p.first < n) × (p.later < n)

abbrev pub AllWithin : ℕ → List Section → Type 0
AllWithin n sections = (s : Section) → Contains sections s → IsWithin n s
