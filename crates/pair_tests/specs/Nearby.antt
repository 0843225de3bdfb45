-- The accesses that are of one number with an access, in a list in order: those that read it, and
-- those that write it. For files: those that seize it, and those that free it.
use Rattle.std.specs.Prelude.{◌≡◌, ℕ, ◌≤◌, Bool, true, false, not, List, length}
use Rattle.std.specs.Ordering.{is_le, is_lt}
use Rattle.std.specs.List.{AllWithin, Contains}
use Rattle.std.specs.List.Sorted.{IsPartitionPoint}
use Rattle.flow_points.specs.declared.fact.Value.{Value}
use Rattle.flow_points.specs.declared.fact.Value.TheVariants.{Arg, Any}
use Rattle.entry_summary.specs.declared.summary.Access.{Access}
use Rattle.entry_summary.specs.declared.summary.Access.TheVariants.{Variable, Field, Own, Seizes}
use Rattle.entry_summary.specs.declared.summary.Access.TheVariants.{Frees}
use Rattle.entry_summary.specs.Orders.{access_order}
use Rattle.pair_tests.specs.declared.near.Bound.{Bound}
use Rattle.pair_tests.specs.declared.near.Bound.TheVariants.{Below, UpTo}

abbrev pub file_access : ℕ → Bool → Access
file_access f false = Seizes f
file_access f true = Frees f

-- the access of the number that writes or does not, and of a field with this selector
abbrev pub near_access : Access → Bool → Value → Access
near_access (Variable w n) v z = Variable v n
near_access (Field w n u) v z = Field v n z
near_access (Own w n) v z = Own v n
near_access (Seizes f) v z = file_access f v
near_access (Frees f) v z = file_access f v

-- the first and the last access of the number that may be: no selector is before the first value,
-- and none behind any
abbrev pub lowest : Access → Bool → Access
lowest one v = near_access one v (Arg 0)

abbrev pub highest : Access → Bool → Access
highest one v = near_access one v Any

-- an access of the number, that writes or does not
abbrev pub IsNear : Access → Bool → Access → Type 0
IsNear (Variable w n) v b = b ≡ Variable v n
IsNear (Field w n u) v b = (z : Value) × (b ≡ Field v n z)
IsNear (Own w n) v b = b ≡ Own v n
IsNear (Seizes f) v b = b ≡ file_access f v
IsNear (Frees f) v b = b ≡ file_access f v

-- some of these accesses, and all that are near
pub record AreNear (one : Access) (write : Bool) (all some : List Access) : Type 0 where
  pub each : (b : Access) → Contains some b → Contains all b
  pub near : (b : Access) → Contains all b → IsNear one write b → Contains some b

-- it reads, or is of own records: it neither conflicts with one that reads nor asks for a test with
-- it
abbrev pub passes_reads : Access → Bool
passes_reads (Variable w n) = not w
passes_reads (Field w n u) = not w
passes_reads (Own w n) = true
passes_reads (Seizes f) = false
passes_reads (Frees f) = false

-- an access is before this one, or not after it
abbrev pub within : Bound → Access → Bool
within (Below low) a = is_lt (access_order a low)
within (UpTo high) a = is_le (access_order a high)

-- so many accesses from the first on are within the bound
pub record AreWithin (bound : Bound) (accesses : List Access) (count : ℕ) : Type 0 where
  pub there : count ≤ length accesses
  pub each : AllWithin (λ a. within bound a ≡ true) accesses 0 count

-- none from the place on is within it
pub record ArePast (bound : Bound) (accesses : List Access) (place : ℕ) : Type 0 where
  pub each : AllWithin (λ a. within bound a ≡ false) accesses place (length accesses)

-- so many are within it, which are the first ones
pub record AreCounted (bound : Bound) (accesses : List Access) (count : ℕ) : Type 0 where
  pub there : count ≤ length accesses
  pub parts : IsPartitionPoint (λ a. within bound a ≡ true) (λ a. within bound a ≡ false) accesses
      count
