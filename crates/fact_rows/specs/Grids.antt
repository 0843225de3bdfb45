-- What changes in the planes of all slots.
use Rattle.std.specs.Prelude.{◌≡◌, ◌⊎◌, ◌↔◌, ℕ, ◌+◌, ◌<◌, Bool, List, [], length, Option, Some}
use Rattle.std.specs.Prelude.{None, IsTrue, slice_index_or, slice_set}
use Rattle.std.specs.Bool.{MatchBool}
use Rattle.std.specs.List.{All, Contains}
use Rattle.fact_rows.specs.declared.place.Counts.{Counts}
use Rattle.fact_rows.specs.declared.place.Spot.{Spot}
use Rattle.fact_rows.specs.declared.place.Spot.TheVariants.{Plane, Awaited}
use Rattle.fact_rows.specs.Numbers.{AreNumbers}
use Rattle.fact_rows.specs.declared.planes.Planes.{Planes}
use Rattle.fact_rows.specs.declared.value.TheConstants.{PLANE_WORDS, AWAITED_WORDS}
use Rattle.fact_rows.specs.Places.{Marks, start_of}
use Rattle.fact_rows.specs.Spread.{IsSound}

-- the row of planes has its place for each slot before each point
pub record IsLaid (slots : List Counts) (starts : List ℕ) (planes awaits : ℕ) : Type 0 where
  pub each_start : length starts ≡ length slots
  pub starts_so : (p : ℕ) → p < length slots → slice_index_or starts p 0 ≡ start_of slots p
  pub each_plane : planes ≡ start_of slots (length slots)
  pub each_await : awaits ≡ length slots

-- so it is, and the sets of both rows have their words
pub record IsGrid (slots : List Counts) (starts : List ℕ) (planes awaits : Planes) : Type 0 where
  pub laid : IsLaid slots starts (length planes.set_numbers) (length awaits.set_numbers)
  pub planes_sound : IsSound planes
  pub planes_wide : planes.sets.width ≡ PLANE_WORDS
  pub awaits_sound : IsSound awaits
  pub awaits_wide : awaits.sets.width ≡ AWAITED_WORDS

-- planes for these slots that have no numbers
pub record IsBlank (slots : List Counts) (m : Marks) : Type 0 where
  pub slots_so : m.slots ≡ slots
  pub planes : All (λ ns. ns ≡ []) m.planes
  pub awaits : All (λ ns. ns ≡ []) m.awaits

-- a number more in one plane of a row, if it was not there
pub record IsSetAt (old : List (List ℕ)) (i n : ℕ) (added : Bool) (new : List (List ℕ)) : Type
    0 where
  pub within : i < length old
  pub list : List ℕ
  pub is : new ≡ slice_set old i list
  pub numbers : AreNumbers (λ m. (m ≡ n) ⊎ Contains (slice_index_or old i []) m) list
  pub fresh : IsTrue added ↔ (Contains (slice_index_or old i []) n → ⊥)
  pub counted : MatchBool added (length list ≡ length (slice_index_or old i []) + 1)
      (list ≡ slice_index_or old i [])

-- all numbers of one plane of a row come to another one
pub record IsJoinedAt (old : List (List ℕ)) (i j : ℕ) (grown : Bool) (new : List (List ℕ)) : Type
    0 where
  pub within : j < length old
  pub list : List ℕ
  pub is : new ≡ slice_set old j list
  pub numbers : AreNumbers (λ m. Contains (slice_index_or old i []) m
      ⊎ Contains (slice_index_or old j []) m) list
  pub counted : MatchBool grown (length (slice_index_or old j []) < length list)
      (list ≡ slice_index_or old j [])

-- a number more at a spot, if it was not there
pub record SetsPlane (old : Marks) (n : ℕ) (added : Bool) (i : ℕ) (new : Marks) : Type 0 where
  pub slots : new.slots ≡ old.slots
  pub planes : IsSetAt old.planes i n added new.planes
  pub awaits : new.awaits ≡ old.awaits

pub record SetsAwaited (old : Marks) (n : ℕ) (added : Bool) (i : ℕ) (new : Marks) : Type 0 where
  pub slots : new.slots ≡ old.slots
  pub planes : new.planes ≡ old.planes
  pub awaits : IsSetAt old.awaits i n added new.awaits

-- all numbers at one spot come to another one
pub record JoinsPlane (old : Marks) (grown : Bool) (i j : ℕ) (new : Marks) : Type 0 where
  pub slots : new.slots ≡ old.slots
  pub planes : IsJoinedAt old.planes i j grown new.planes
  pub awaits : new.awaits ≡ old.awaits

pub record JoinsAwaited (old : Marks) (grown : Bool) (i j : ℕ) (new : Marks) : Type 0 where
  pub slots : new.slots ≡ old.slots
  pub planes : new.planes ≡ old.planes
  pub awaits : IsJoinedAt old.awaits i j grown new.awaits

abbrev pub JoinsAt : Marks → Bool → Option Spot → Option Spot → Marks → Type 0
JoinsAt old grown (Some (Plane i)) (Some (Plane j)) new = JoinsPlane old grown i j new
JoinsAt old grown (Some (Awaited i)) (Some (Awaited j)) new = JoinsAwaited old grown i j new
JoinsAt old grown from to new = ⊥

abbrev pub SetsAt : Marks → ℕ → Bool → Option Spot → Marks → Type 0
SetsAt old n added None new = ⊥
SetsAt old n added (Some (Plane i)) new = SetsPlane old n added i new
SetsAt old n added (Some (Awaited i)) new = SetsAwaited old n added i new
