-- Which statements give an access in the jobs of an entry, and which send to a level.
use Rattle.std.specs.Prelude.{◌≡◌, ◌⊎◌, ◌↔◌, ℕ, ◌+◌, List, length, Some, slice_get}
use Rattle.std.specs.List.{Contains}
use Rattle.std.specs.List.Sorted.{IsStrictlySortedBy}
use Rattle.std.specs.declared.cmp.Ordering.{Ordering}
use Rattle.plex_num.specs.declared.level.Level.{Level}
use Rattle.exchange_model.specs.declared.exchange.Exchange.{Exchange}
use Rattle.flow_points.specs.Places.{Place, StandsAt}
use Rattle.flow_points.specs.Facts.{Facts, Reached}
use Rattle.entry_summary.specs.declared.summary.Access.{Access}
use Rattle.entry_summary.specs.declared.summary.Summary.{Summary}
use Rattle.entry_summary.specs.Accesses.{Accesses}
use Rattle.entry_summary.specs.Summaries.{SendsTo}
use Rattle.conflicts_meaning.specs.declared.rows.GivenAt.{GivenAt}
use Rattle.conflicts_meaning.specs.contracts.rows.GivenAtOrd.TheImpl as given

-- a job of the entry may reach the point, and its statement gives the access
pub record GivesAccess (x : Exchange) (P : Facts) (e : ℕ) (a : Access) (p : ℕ) : Type 0 where
  pub at : Place
  pub stands : StandsAt x p at
  pub reached : Reached P e p
  pub access : Accesses x P e at.block p at.layer a

-- a job of the entry may reach the point, and its statement sends to the buffer of the level
pub record SendsFrom (x : Exchange) (P : Facts) (e : ℕ) (level : Level) (p : ℕ) : Type 0 where
  pub at : Place
  pub stands : StandsAt x p at
  pub reached : Reached P e p
  pub sends : SendsTo x at.layer level

-- the number is that of an access which the statement at the point gives
pub record IsAccessRow (x : Exchange) (P : Facts) (e : ℕ) (s : Summary) (r : GivenAt) : Type 0 where
  pub access : Access
  pub there : slice_get s.accesses r.number ≡ Some access
  pub gives : GivesAccess x P e access r.point

-- the number is that of a level to which the statement at the point sends; levels are numbered
-- behind the accesses
pub record IsLevelRow (x : Exchange) (P : Facts) (e : ℕ) (s : Summary) (r : GivenAt) : Type 0 where
  pub level : Level
  pub place : ℕ
  pub there : slice_get s.levels place ≡ Some level
  pub number : r.number ≡ length s.accesses + place
  pub sends : SendsFrom x P e level r.point

-- the statement at the point gives what has this number in the summary of the entry
abbrev pub IsGiven : Exchange → Facts → ℕ → Summary → GivenAt → Type 0
IsGiven x P e s r = IsAccessRow x P e s r ⊎ IsLevelRow x P e s r

-- by the numbers, then by the points
abbrev pub given_order : GivenAt → GivenAt → Ordering
given_order = given.ghosts.cmp

-- all points of all accesses and levels of a summary, in order, each once
pub record AreGiven (x : Exchange) (P : Facts) (e : ℕ) (s : Summary) (rows : List GivenAt) : Type
    0 where
  pub exact : (r : GivenAt) → Contains rows r ↔ IsGiven x P e s r
  pub rising : IsStrictlySortedBy given_order rows

-- points of accesses and levels of a summary, some or all, in order, each once
pub record AreSomeGiven (x : Exchange) (P : Facts) (e : ℕ) (s : Summary)
    (rows : List GivenAt) : Type 0 where
  pub each : (r : GivenAt) → Contains rows r → IsGiven x P e s r
  pub rising : IsStrictlySortedBy given_order rows
