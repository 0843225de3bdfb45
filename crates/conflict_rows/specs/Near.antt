-- Which rows are found by an access: with those of its number that have its selector or any.
use Rattle.std.specs.Prelude.{◌≡◌, ◌⊎◌, ℕ, ◌+◌, ◌<◌, Bool, true, List, length, Some, slice_get}
use Rattle.std.specs.Option.{option_map}
use Rattle.plex_num.specs.declared.level.Level.{Level}
use Rattle.flow_points.specs.declared.fact.Value.{Value}
use Rattle.flow_points.specs.declared.fact.Value.TheVariants.{Any}
use Rattle.entry_summary.specs.declared.summary.Access.{Access}
use Rattle.entry_summary.specs.declared.summary.Access.TheVariants.{Field}
use Rattle.entry_summary.specs.Orders.{level_number}
use Rattle.pair_tests.specs.declared.pair.Conflict.TheVariants as conflict
use Rattle.pair_tests.specs.Asked.{asks}
use Rattle.pair_tests.specs.Clashes.{clash_of}
use Rattle.pair_tests.specs.Nearby.{near_access}
use Rattle.conflicts_meaning.specs.declared.rows.ClashRow.{ClashRow}
use Rattle.conflicts_meaning.specs.Rows.{listed}

-- the selector of an access of a field
abbrev pub selector_of : Access → Value
selector_of (Field w n u) = u
selector_of a = Any

-- one access of the first, at its place, and another of the later
pub record ClashesLater (others : List Access) (other : Access) (place : ℕ) (one : Access)
    (r : ClashRow) : Type 0 where
  pub first : r.first ≡ place
  pub there : slice_get others r.later ≡ Some other
  pub clash : option_map listed (clash_of one other) ≡ Some r.clash

-- one access of the later, at its place, and another of the first
pub record ClashesFirst (ones : List Access) (one : Access) (place : ℕ) (other : Access)
    (r : ClashRow) : Type 0 where
  pub later : r.later ≡ place
  pub there : slice_get ones r.first ≡ Some one
  pub clash : option_map listed (clash_of one other) ≡ Some r.clash

-- with one of its number that has this selector
pub record NearLater (others : List Access) (selector : Value) (place : ℕ) (one : Access)
    (r : ClashRow) : Type 0 where
  pub write : Bool
  pub clashes : ClashesLater others (near_access one write selector) place one r

pub record NearFirst (ones : List Access) (place : ℕ) (other : Access) (r : ClashRow) : Type 0 where
  pub write : Bool
  pub clashes : ClashesFirst ones (near_access other write Any) place other r

-- found by an access of the first
abbrev pub IsOfFirst : List Access → ℕ → Access → ClashRow → Type 0
IsOfFirst others place one r =
    NearLater others Any place one r ⊎ NearLater others (selector_of one) place one r

-- found by an access of the later, which is of a field
pub record IsOfLater (ones : List Access) (place : ℕ) (other : Access) (r : ClashRow) : Type 0 where
  pub field : asks other ≡ true
  pub near : NearFirst ones place other r

-- a level with this number
pub record IsOfLevelAt (later : Level) (count : ℕ) (level : Level) (r : ClashRow) : Type 0 where
  pub number : r.first ≡ count
  pub alone : r.later ≡ 0
  pub clash : r.clash ≡ listed (conflict.Above level)
  pub below : level_number level < level_number later

-- a level, at its place, numbered behind these accesses
abbrev pub IsOfLevel : List Access → Level → ℕ → Level → ClashRow → Type 0
IsOfLevel ones later place level r = IsOfLevelAt later (length ones + place) level r
