-- How the search for the rows of a section ends, of which so many may be found.
use Rattle.std.specs.Prelude.{◌≡◌, ℕ, Bool, true, false, nat_lt, List, length, Option, Some, None}
use Rattle.conflicts_meaning.specs.declared.rows.GivenAt.{GivenAt}
use Rattle.conflict_rows.specs.declared.found.GivenRows.{GivenRows}
use Rattle.conflict_rows.specs.declared.found.GivenRows.TheVariants.{Whole, Over}

-- there is a bound, and so many are more
abbrev pub is_past : Option ℕ → ℕ → Bool
is_past None count = false
is_past (Some most) count = nat_lt most count

-- all rows come where no more than so many may be found; else some, which are more
abbrev pub FindsWithin : Option ℕ → (All Few : List GivenAt → Type 0) → GivenRows → Type 0
FindsWithin most All Few (Whole rows) = All rows × (is_past most (length rows) ≡ false)
FindsWithin most All Few (Over rows) = Few rows × (is_past most (length rows) ≡ true)
