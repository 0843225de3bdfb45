-- What the statement at one place gives of the jobs of an entry.
use Rattle.std.specs.Prelude.{◌≡◌, ℕ, ◌+◌, List, Some, slice_get}
use Rattle.std.specs.List.{Contains}
use Rattle.plex_num.specs.declared.level.Level.{Level}
use Rattle.exchange_model.specs.declared.exchange.Exchange.{Exchange}
use Rattle.flow_points.specs.Facts.{Facts}
use Rattle.flow_table.specs.declared.place.PlaceAt.{PlaceAt}
use Rattle.entry_summary.specs.declared.summary.Access.{Access}
use Rattle.entry_summary.specs.declared.summary.Summary.{Summary}
use Rattle.conflicts_meaning.specs.declared.rows.GivenAt.{GivenAt}
use Rattle.conflicts_meaning.specs.Points.{IsGiven}

-- a row of the point of the statement
pub record GivesAt (x : Exchange) (P : Facts) (e : ℕ) (s : Summary) (at : PlaceAt)
    (r : GivenAt) : Type 0 where
  pub point : r.point ≡ at.point
  pub given : IsGiven x P e s r

-- the row of an access at the point, by its number among all
pub record AccessAt (all : List Access) (point place : ℕ) (access : Access) (r : GivenAt) : Type
    0 where
  pub number : slice_get all r.number ≡ Some access
  pub point_is : r.point ≡ point

-- the row of a level at the point, if it is among those to which the statement there sends; levels
-- are numbered behind so many accesses
pub record LevelAt (count : ℕ) (sent : List Level) (point place : ℕ) (level : Level)
    (r : GivenAt) : Type 0 where
  pub sends : Contains sent level
  pub number : r.number ≡ count + place
  pub point_is : r.point ≡ point
