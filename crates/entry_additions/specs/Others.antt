-- The uses of variables and fields other than additions, and the numbers that have none.
use Rattle.std.specs.Prelude.{◌≡◌, ℕ, false, List, Some, option_and_then, slice_get}
use Rattle.std.specs.List.{Contains}
use Rattle.exchange_model.specs.declared.exchange.Exchange.{Exchange}
use Rattle.flow_points.specs.Places.{Place}
use Rattle.entry_summary.specs.declared.summary.Access.{Access}
use Rattle.conflicts_meaning.specs.declared.rows.GivenAt.{GivenAt}
use Rattle.conflict_rows.specs.Items.{GivenBy}
use Rattle.entry_additions.specs.declared.cells.CellKind.{CellKind}
use Rattle.entry_additions.specs.Cells.{listed_by, number_in}
use Rattle.entry_additions.specs.Sums.{adds}

-- the row is of an access to this variable or field, and the statement at its point does not add to
-- it
pub record IsOther (x : Exchange) (places : List Place) (accesses : List Access) (k : CellKind)
    (r : GivenAt) (number : ℕ) : Type 0 where
  pub is : option_and_then (number_in k) (slice_get accesses r.number) ≡ Some number
  pub at : Place
  pub stands : slice_get places r.point ≡ Some at
  pub adds_not : adds x at.block k number at.layer ≡ false

abbrev pub IsOtherAt : Exchange → List Place → List Access → CellKind → ℕ → GivenAt → ℕ → Type 0
IsOtherAt x places accesses k place r number = IsOther x places accesses k r number

-- the access lists this number, which is not among `others`
pub record IsAlone (others : List ℕ) (k : CellKind) (place : ℕ) (access : Access) (number : ℕ)
    : Type 0 where
  pub lists : listed_by k access ≡ Some number
  pub none : Contains others number → ⊥

-- one of the accesses lists this number, and no row is of a use other than an addition
pub record IsOnlyAdded (x : Exchange) (places : List Place) (accesses : List Access)
    (rows : List GivenAt) (k : CellKind) (number : ℕ) : Type 0 where
  pub access : Access
  pub there : Contains accesses access
  pub lists : listed_by k access ≡ Some number
  pub none : GivenBy (IsOtherAt x places accesses k) rows number → ⊥
