-- Which points are reached, one by one.
use Rattle.std.specs.Prelude.{◌≡◌, ◌↔◌, ℕ, Bool, true, List, length, Some, slice_get}
use Rattle.flow_points.specs.Facts.{Facts, Reached}
use Rattle.flow_table.specs.declared.place.PlaceAt.{PlaceAt}
use Rattle.entry_faults.specs.Marks.{is_in}

-- of each of these places whether it is reached
pub record AreReached (P : Facts) (e : ℕ) (places : List PlaceAt) (reached : List Bool) : Type
    0 where
  pub long : length reached ≡ length places
  pub exact : (p : ℕ) (at : PlaceAt) → slice_get places p ≡ Some at
      → (is_in reached p ≡ true) ↔ Reached P e at.point
