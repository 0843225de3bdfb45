-- Lines of rows, one after the other, and whether they exceed the room left.
use Rattle.std.proofs.Common.{◌≡◌, ℕ, ◌+◌, ◌-◌, ◌<◌, ◌≤◌, Bool, true, false, nat_lt, List, [], ◌∷◌}
use Rattle.std.proofs.Common.{◌++◌, length, drop, Some, refl, sym, ap, ◌∙◌, arith, append_assoc}
use Rattle.std.proofs.Common.{append-nil, length-append}
use Rattle.std.specs.Prelude.{slice_get}
use Rattle.std.specs.List.{flat_map}
use Rattle.std.proofs.Math.ListN.{drop_of_length-le}
use Rattle.std.proofs.lemmas.Bool.{le-ltb, lt-ltb}
use Rattle.std.proofs.lemmas.Option.{get_or_from_slice_get, slice_get_within}
use Rattle.plex_num.proofs.Lists.{opens}

module _ {R : Type 0} (f : R → List ℕ) (rows : List R) (room : ℕ) where
  abbrev size_of : List R → ℕ
  size_of l = length (flat_map f l)

  -- the lines of the rows before an index leave this much of the room
  pub record Leaves (place left : ℕ) : Type 0 where
    pub sum : length (flat_map f rows) + left ≡ room + length (flat_map f (drop place rows))

  pub leaves_all : Leaves 0 room
  leaves_all = record { sum = omega arith }

  opened : (place : ℕ) (row : R) → slice_get rows place ≡ Some row → size_of (drop place rows) ≡ length (f row) + size_of (drop (place + 1) rows)
  opened place row there =
      ap size_of (opens rows place row (slice_get_within rows place row there) (sym (get_or_from_slice_get rows place row row there)))
      ∙ length-append (f row) (flat_map f (drop (place + 1) rows))

  pub leaves_less : (place left size : ℕ) (row : R) → slice_get rows place ≡ Some row → size ≡ length (f row)
      → size ≤ left → Leaves place left → Leaves (place + 1) (left - size)
  leaves_less place left size row there sized fits h = record { sum = (let o = opened place row there in let s = h.sum in omega (arith, o, s, sized, fits)) }

  pub leaves_none : (place left size : ℕ) (row : R) (over : Bool) → slice_get rows place ≡ Some row
      → size ≡ length (f row) → left < size → Leaves place left → over ≡ true
      → over ≡ nat_lt room (length (flat_map f rows))
  leaves_none place left size row over there sized past h is =
      let o = opened place row there in
      let s = h.sum in
      let more : room < size_of rows = omega (arith, o, s, sized, past) in
      is ∙ sym (lt-ltb room (size_of rows) more)

  pub leaves_some : (place left : ℕ) (over : Bool) → length rows ≤ place → Leaves place left → over ≡ false → over ≡ nat_lt room (length (flat_map f rows))
  leaves_some place left over past h is =
      let none : size_of (drop place rows) ≡ 0 = ap size_of (drop_of_length-le rows past) in
      let s = h.sum in
      let most : size_of rows ≤ room = omega (arith, none, s) in
      is ∙ sym (le-ltb room (size_of rows) most)

  -- the lines of the rows before an index are written and fit
  pub record Written (place : ℕ) (text : List ℕ) : Type 0 where
    pub all : text ++ flat_map f (drop place rows) ≡ flat_map f rows
    pub fits : length text ≤ room

  pub none_written : (text : List ℕ) → text ≡ [] → Written 0 text
  none_written text empty = record { all = ap (λ t. t ++ flat_map f rows) empty; fits = (let none : length text ≡ 0 = ap length empty in omega (arith, none)) }

  grown : (place : ℕ) (row : R) (text new : List ℕ) → slice_get rows place ≡ Some row → new ≡ text ++ f row
      → Written place text → new ++ flat_map f (drop (place + 1) rows) ≡ flat_map f rows
  grown place row text new there made h =
      ap (λ t. t ++ flat_map f (drop (place + 1) rows)) made ∙ append_assoc text (f row) (flat_map f (drop (place + 1) rows))
      ∙ ap (λ l. text ++ flat_map f l) (sym (opens rows place row (slice_get_within rows place row there)
      (sym (get_or_from_slice_get rows place row row there)))) ∙ h.all

  pub more_written : (place size : ℕ) (row : R) (text new : List ℕ) → slice_get rows place ≡ Some row
      → new ≡ text ++ f row → size ≡ length new → size ≤ room → Written place text → Written (place + 1) new
  more_written place size row text new there made sized fits h = record { all = grown place row text new there made h; fits = omega (arith, sized, fits) }

  pub too_much_written : (place size : ℕ) (row : R) (text new : List ℕ) → slice_get rows place ≡ Some row
      → new ≡ text ++ f row → size ≡ length new → room < size → Written place text
      → (lines : List ℕ) × (lines ≡ flat_map f rows) × (room < length lines)
  too_much_written place size row text new there made sized over h =
      let all = sym (ap length (grown place row text new there made h)) ∙ length-append new (flat_map f (drop (place + 1) rows)) in
      (flat_map f rows, refl, omega (arith, all, sized, over))

  pub all_written : (place : ℕ) (text : List ℕ) → length rows ≤ place → Written place text → (text ≡ flat_map f rows) × (length text ≤ room)
  all_written place text past h = (sym (append-nil text) ∙ ap (λ l. text ++ flat_map f l) (sym (drop_of_length-le rows past)) ∙ h.all, h.fits)
