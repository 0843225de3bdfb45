-- The points before which slots have numbers, and the facts of slots.
use Rattle.std.specs.Prelude.{◌≡◌, ◌⊎◌, ℕ, ◌+◌, ◌<◌, List, [], ◌∷◌, ◌++◌, map, Option, Some, None}
use Rattle.std.specs.Prelude.{slice_get}
use Rattle.std.specs.declared.cmp.Ordering.{Ordering}
use Rattle.std.specs.List.{All, Contains, range_with_len}
use Rattle.std.specs.List.Sorted.{IsStrictlySortedBy}
use Rattle.std.specs.Ordering.{nat_cmp}
use Rattle.flow_points.specs.declared.fact.Slot.{Slot}
use Rattle.flow_points.specs.declared.fact.Slot.TheVariants as slot
use Rattle.flow_points.specs.declared.fact.Fact.{Fact}
use Rattle.flow_points.specs.Facts.{fact}
use Rattle.fact_rows.specs.declared.keys.Key.{Key}
use Rattle.fact_rows.specs.declared.keys.Numbered.{Numbered}
use Rattle.fact_rows.specs.declared.keys.Numbered.TheVariants.{Temp, Given, Answered}
use Rattle.fact_rows.specs.declared.place.Counts.{Counts}
use Rattle.fact_rows.specs.declared.place.Spot.{Spot}
use Rattle.fact_rows.specs.contracts.keys.KeyOrd.TheImpl as keys
use Rattle.fact_rows.specs.declared.value.TheConstants.{ANY_NUMBER, AWAITED_NUMBERS}
use Rattle.fact_rows.specs.Places.{Marks, at_spot, numbers_at}
use Rattle.fact_rows.specs.Values.{value_in}

abbrev pub key_order : Key → Key → Ordering
key_order = keys.ghosts.cmp

abbrev pub key : ℕ → Slot → Key
key p s = record { point = p; slot = s }

-- the numbers of a plane rise, and each is below a bound
pub record ArePlaned (bound : ℕ) (numbers : List ℕ) : Type 0 where
  pub rising : IsStrictlySortedBy nat_cmp numbers
  pub below : All (λ n. n < bound) numbers

-- all planes are so, and each point before which a slot has numbers is listed
pub record IsKept (m : Marks) (touched : List ℕ) : Type 0 where
  pub planes : All (ArePlaned (ANY_NUMBER + 1)) m.planes
  pub awaits : All (ArePlaned AWAITED_NUMBERS) m.awaits
  pub listed : (p : ℕ) (s : Slot) → (numbers_at m p s ≡ []) ⊎ Contains touched p

-- the point is listed beside the others, unless there are numbers at the spot
pub record IsTouched (m : Marks) (spot : Spot) (old : List ℕ) (p : ℕ) (new : List ℕ) : Type 0 where
  pub still : (q : ℕ) → Contains old q → Contains new q
  pub there : at_spot m (Some spot) ≡ [] → Contains new p

abbrev pub numbered_slot : Numbered → ℕ → Slot
numbered_slot Temp n = slot.Temp n
numbered_slot Given n = slot.Given n
numbered_slot Answered n = slot.Answered n

-- so many numbered slots before a point
abbrev pub numbered_keys : ℕ → Numbered → ℕ → List Key
numbered_keys p numbered count =
    map (λ n. key p (numbered_slot numbered n)) (range_with_len 0 count)

-- all slots before a point that has so many, in order
abbrev pub keys_at : ℕ → Counts → List Key
keys_at p c = numbered_keys p Temp c.temps ++ (numbered_keys p Given c.given
    ++ (numbered_keys p Answered c.answered ++ (key p slot.Depth ∷ key p slot.Awaits ∷ [])))

abbrev pub keys_if : ℕ → Option Counts → List Key
keys_if p None = []
keys_if p (Some c) = keys_at p c

-- all slots before a point
abbrev pub keys_before : List Counts → ℕ → List Key
keys_before slots p = keys_if p (slice_get slots p)

-- all slots before these points
abbrev pub keys_of : List Counts → List ℕ → List Key
keys_of slots [] = []
keys_of slots (p ∷ ps) = keys_before slots p ++ keys_of slots ps

-- the facts of these numbers of a slot
abbrev pub facts_at : ℕ → Key → List ℕ → List Fact
facts_at e k numbers = map (λ n. fact e k.point k.slot (value_in k.slot n)) numbers

-- the facts of these slots
abbrev pub facts_of : ℕ → Marks → List Key → List Fact
facts_of e m [] = []
facts_of e m (k ∷ ks) = facts_at e k (numbers_at m k.point k.slot) ++ facts_of e m ks
