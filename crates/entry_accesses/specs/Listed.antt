-- The accesses of an entry, of which so many may be met.
use Rattle.std.specs.Prelude.{ℕ, ◌<◌, ◌↔◌, List, Option, Some, None}
use Rattle.std.specs.List.{Contains}
use Rattle.std.specs.List.Sorted.{IsStrictlySortedBy}
use Rattle.exchange_model.specs.declared.exchange.Exchange.{Exchange}
use Rattle.flow_points.specs.Facts.{Facts}
use Rattle.entry_summary.specs.declared.summary.Access.{Access}
use Rattle.entry_summary.specs.Accesses.{IsAccess}
use Rattle.entry_summary.specs.Orders.{access_order}
use Rattle.entry_accesses.specs.declared.listed.Listed.{Listed}
use Rattle.entry_accesses.specs.declared.listed.Listed.TheVariants.{Whole, Over}

-- exactly the accesses of the entry, in order
pub record AreAccesses (x : Exchange) (P : Facts) (e : ℕ) (accesses : List Access) : Type 0 where
  pub exact : (a : Access) → Contains accesses a ↔ IsAccess x P e a
  pub rising : IsStrictlySortedBy access_order accesses

-- there is a bound, and more were met
abbrev pub IsPast : Option ℕ → ℕ → Type 0
IsPast None met = ⊥
IsPast (Some most) met = most < met

-- these accesses come, or the bound was passed
abbrev pub ListsWithin : Option ℕ → (List Access → Type 0) → Listed → Type 0
ListsWithin most All (Whole accesses met) = All accesses
ListsWithin most All (Over met) = IsPast most met
