-- Where the numbers of a slot are kept: one row of planes for all points, one after the other, with
-- a plane for each slot before a point but AWAITS; and beside it the planes of AWAITS, one for each
-- point.
use Rattle.std.specs.Prelude.{◌≡◌, ℕ, zero, suc, ◌+◌, ◌<◌, nat_lt, List, [], ◌∷◌, Option, Some}
use Rattle.std.specs.Prelude.{None, slice_get, slice_index_or, if◌then◌else◌}
use Rattle.flow_points.specs.declared.fact.Slot.{Slot}
use Rattle.flow_points.specs.declared.fact.Slot.TheVariants.{Temp, Given, Answered, Depth, Awaits}
use Rattle.flow_table.specs.declared.row.Row.{Row}
use Rattle.fact_rows.specs.declared.place.Counts.{Counts}
use Rattle.fact_rows.specs.declared.place.Spot.{Spot}
use Rattle.fact_rows.specs.declared.place.Spot.TheVariants.{Plane, Awaited}

-- how many slots of each kind stand before the point of a row
abbrev pub counts_of : Row → Counts
counts_of r = record { temps = r.temps; given = r.given; answered = r.answered }

-- the slot stands before a point with so many
abbrev pub HasPlace : Counts → Slot → Type 0
HasPlace c (Temp t) = t < c.temps
HasPlace c (Given k) = k < c.given
HasPlace c (Answered k) = k < c.answered
HasPlace c Depth = Unit {0}
HasPlace c Awaits = Unit {0}

-- how many planes a point has
abbrev pub size_of : Counts → ℕ
size_of c = c.temps + c.given + c.answered + 1

-- the first plane of a point, which comes after those of all points before it
unfoldable pub start_of : List Counts → ℕ → ℕ
start_of slots zero = 0
start_of [] (suc p) = 0
start_of (c ∷ slots) (suc p) = size_of c + start_of slots p

-- the plane of the k-th of so many slots, the first of which has this plane
abbrev pub spot_below : ℕ → ℕ → ℕ → Option Spot
spot_below first k count = (if nat_lt k count then Some (Plane (first + k)) else None)

-- the spot of a slot before a point whose planes begin so
abbrev pub spot_in : ℕ → ℕ → Counts → Slot → Option Spot
spot_in start p c (Temp t) = spot_below start t c.temps
spot_in start p c (Given k) = spot_below (start + c.temps) k c.given
spot_in start p c (Answered k) = spot_below (start + c.temps + c.given) k c.answered
spot_in start p c Depth = Some (Plane (start + c.temps + c.given + c.answered))
spot_in start p c Awaits = Some (Awaited p)

abbrev pub spot_if : Option Counts → ℕ → ℕ → Slot → Option Spot
spot_if None start p s = None
spot_if (Some c) start p s = spot_in start p c s

-- the spot of a slot before a point, if there is one
unfoldable pub spot_of : List Counts → ℕ → Slot → Option Spot
spot_of slots p s = spot_if (slice_get slots p) (start_of slots p) p s

-- the spot is that of a slot before a point
pub record HoldsSlot (slots : List Counts) (spot : Spot) : Type 0 where
  pub point : ℕ
  pub slot : Slot
  pub is : spot_of slots point slot ≡ Some spot

-- the numbers of all spots: how many slots stand before each point, the row of planes, and the
-- planes of AWAITS
pub record Marks : Type 0 where
  pub slots : List Counts
  pub planes : List (List ℕ)
  pub awaits : List (List ℕ)

abbrev pub at_spot : Marks → Option Spot → List ℕ
at_spot m None = []
at_spot m (Some (Plane i)) = slice_index_or m.planes i []
at_spot m (Some (Awaited p)) = slice_index_or m.awaits p []

-- the numbers of a slot before a point; none where the slot is not there
unfoldable pub numbers_at : Marks → ℕ → Slot → List ℕ
numbers_at m p s = at_spot m (spot_of m.slots p s)
