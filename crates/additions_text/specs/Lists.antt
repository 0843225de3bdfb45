-- For each requested entry, the variables and fields that its jobs only add to.
use Rattle.std.specs.Prelude.{◌≡◌, ℕ, Bool, true, nat_eq, ◌||◌, List, Option, Some, None, length}
use Rattle.std.specs.Prelude.{slice_get}
use Rattle.std.specs.List.{Contains}
use Rattle.exchange_model.specs.declared.exchange.Exchange.{Exchange}
use Rattle.flow_points.specs.Facts.{IsLeast}
use Rattle.conflicts_meaning.specs.declared.rows.EntryPair.{EntryPair}
use Rattle.conflicts_meaning.specs.declared.rows.Section.{Section}
use Rattle.conflicts_meaning.specs.declared.rows.Section.TheVariants.{Entry, Pair}
use Rattle.entry_additions.specs.declared.added.Added.{Added}
use Rattle.entry_additions.specs.Added.{AddsExactly}

-- the entry's lines are requested
abbrev pub is_asked : Option EntryPair → ℕ → Bool
is_asked None e = true
is_asked (Some p) e = nat_eq e p.first || nat_eq e p.later

abbrev pub IsListOf : Exchange → Option EntryPair → ℕ → Added → Type 0
IsListOf x asked e list = is_asked asked e ≡ true → AddsExactly x (IsLeast x) e list

-- the lists of the first entries
pub record AreLists (x : Exchange) (asked : Option EntryPair) (count : ℕ) (lists : List Added)
    : Type 0 where
  pub long : length lists ≡ count
  pub is : (e : ℕ) (list : Added) → slice_get lists e ≡ Some list → IsListOf x asked e list

-- the entries of the section are requested
abbrev pub AsksFor : Option EntryPair → Section → Type 0
AsksFor asked (Entry e) = is_asked asked e ≡ true
AsksFor asked (Pair p) = (is_asked asked p.first ≡ true) × (is_asked asked p.later ≡ true)

abbrev pub AllAsked : Option EntryPair → List Section → Type 0
AllAsked asked sections = (s : Section) → Contains sections s → AsksFor asked s
