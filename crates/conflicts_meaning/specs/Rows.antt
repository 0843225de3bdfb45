-- Which accesses of two entries clash, and on what.
use Rattle.std.specs.Prelude.{◌≡◌, ◌⊎◌, ◌↔◌, ℕ, ◌+◌, ◌<◌, List, length, Some, slice_get}
use Rattle.std.specs.Option.{option_map}
use Rattle.std.specs.List.{Contains}
use Rattle.std.specs.List.Sorted.{IsStrictlySortedBy}
use Rattle.std.specs.declared.cmp.Ordering.{Ordering}
use Rattle.plex_num.specs.declared.level.Level.{Level}
use Rattle.entry_summary.specs.declared.summary.Access.{Access}
use Rattle.entry_summary.specs.declared.summary.Summary.{Summary}
use Rattle.entry_summary.specs.Orders.{level_number}
use Rattle.pair_tests.specs.declared.pair.Conflict.{Conflict}
use Rattle.pair_tests.specs.declared.pair.Conflict.TheVariants as conflict
use Rattle.pair_tests.specs.Clashes.{clash_of}
use Rattle.conflicts_meaning.specs.declared.rows.Clash.{Clash}
use Rattle.conflicts_meaning.specs.declared.rows.Clash.TheVariants.{Variable, Field, Seizing, Above}
use Rattle.conflicts_meaning.specs.declared.rows.ClashRow.{ClashRow}
use Rattle.conflicts_meaning.specs.contracts.rows.ClashRowOrd.TheImpl as rows

-- how a conflict is listed
abbrev pub listed : Conflict → Clash
listed (conflict.Variable n) = Variable n
listed (conflict.Field n u v) = Field n u v
listed (conflict.Seizing f) = Seizing f
listed (conflict.Above l) = Above (level_number l)

-- the accesses of these numbers clash
pub record AccessesClash (first later : Summary) (r : ClashRow) : Type 0 where
  pub one : Access
  pub other : Access
  pub of_first : slice_get first.accesses r.first ≡ Some one
  pub of_later : slice_get later.accesses r.later ≡ Some other
  pub clash : option_map listed (clash_of one other) ≡ Some r.clash

-- the first may send to the level of this number, which is above that of the later
pub record LevelClashes (first later : Summary) (r : ClashRow) : Type 0 where
  pub level : Level
  pub place : ℕ
  pub of_first : slice_get first.levels place ≡ Some level
  pub number : r.first ≡ length first.accesses + place
  pub alone : r.later ≡ 0
  pub clash : r.clash ≡ listed (conflict.Above level)
  pub below : level_number level < level_number later.level

abbrev pub IsClashRow : Summary → Summary → ClashRow → Type 0
IsClashRow first later r = AccessesClash first later r ⊎ LevelClashes first later r

-- by the clashes, then by the numbers
abbrev pub row_order : ClashRow → ClashRow → Ordering
row_order = rows.ghosts.cmp

-- all that clashes of two summaries, in order, each once
pub record AreClashRows (first later : Summary) (rows : List ClashRow) : Type 0 where
  pub exact : (r : ClashRow) → Contains rows r ↔ IsClashRow first later r
  pub rising : IsStrictlySortedBy row_order rows

-- what clashes of two summaries, some of it or all, in order, each once
pub record AreSomeClashRows (first later : Summary) (rows : List ClashRow) : Type 0 where
  pub each : (r : ClashRow) → Contains rows r → IsClashRow first later r
  pub rising : IsStrictlySortedBy row_order rows
