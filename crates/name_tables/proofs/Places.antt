-- Where a name stands among the names of rows.
use Rattle.std.proofs.Common.{true≢false, ◌≡◌, ◌≢◌, ◌↔◌, ℕ, ◌+◌, ◌<◌, ◌≤◌, Bool, true, false, not}
use Rattle.std.proofs.Common.{cond, nat_lt, List, [], length, map, refl, sym, ◌∙◌, ap, arith}
use Rattle.std.proofs.Common.{Option, Some, None, get_or, slice_get}
use Rattle.std.specs.List.{position, position_or_len}
use Rattle.std.specs.Cmp.Lexicographic.{same_text, other_text}
use Rattle.std.proofs.lemmas.List.{length-map}
use Rattle.std.proofs.lemmas.List.Quantifiers.{position-Some}
use Rattle.std.proofs.lemmas.List.Recursion.{same_from_clauses}
use Rattle.std.proofs.lemmas.List.Sums.{position_or_len_is, prefix_len_passes}
use Rattle.std.proofs.lemmas.Bool.{lt-ltb, ltb-false}
use Rattle.std.proofs.lemmas.Option.{slice_get_within, slice_get-get_or, get_or_from_slice_get}
use Rattle.name_tables.specs.Rows.{place_of, same_bytes, NamesDiffer}

pub place_of_rows : {R : Type 0} (text : R → List ℕ) (rows : List R) (name : List ℕ)
    → place_of (map text rows) name ≡ position (λ r. same_bytes (text r) name) rows
place_of_rows {R = R} text rows name =
    let same = same_from_clauses (λ (rs : List R). position_or_len (λ n. same_bytes n name) (map text rs))
    (position_or_len (λ (r : R). same_bytes (text r) name))
    (λ (r : R) (n : ℕ). cond (not (same_bytes (text r) name)) (1 + n) 0) refl (λ r rs. refl) (λ r rs. refl) rows in
    rw (same, length-map rows text) refl

-- a test of two names tells whether they are the same
pub same_bytes-self : (a b : List ℕ) (t : Bool) → a ≡ b → same_bytes a b ≡ t → t ≡ true
same_bytes-self a b true e h = refl
same_bytes-self a b false e h = absurd (other_text a b (sym h) e)

same_bytes-other : (a b : List ℕ) (t : Bool) → a ≢ b → same_bytes a b ≡ t → t ≡ false
same_bytes-other a b true ne h = absurd (ne (same_text a b (sym h)))
same_bytes-other a b false ne h = refl

pub found_has_name : (names : List (List ℕ)) (name : List ℕ) (i : ℕ) → place_of names name ≡ Some i → slice_get names i ≡ Some name
found_has_name names name i h =
    let p = position-Some (λ n. same_bytes n name) names i [] h in
    slice_get-get_or names i [] p.0 ∙ ap (λ n. Some n) (same_text (get_or names i []) name (sym p.1))

-- no name before the one that is found is the same
pub first_of_name : (names : List (List ℕ)) (name : List ℕ) (i k : ℕ) → place_of names name ≡ Some i → k < i → slice_get names k ≢ Some name
first_of_name names name i k h lt e =
    let p = position-Some (λ n. same_bytes n name) names i [] h in
    other_text (get_or names k []) name (sym (p.2 k lt)) (get_or_from_slice_get names k name [] e)

pub stands_is_found : (names : List (List ℕ)) (name : List ℕ) (i : ℕ) → NamesDiffer names → slice_get names i ≡ Some name → place_of names name ≡ Some i
stands_is_found names name i differ e =
    let within : i < length names = slice_get_within names i name e in
    let here : get_or names i [] ≡ name = get_or_from_slice_get names i name [] e in
    let at : position_or_len (λ n. same_bytes n name) names ≡ i = position_or_len_is (λ n. same_bytes n name) names i [] (omega arith)
    (λ k lt. same_bytes-other (get_or names k []) name _ (λ same. differ k i [] lt within (same ∙ sym here)) refl)
    (λ _. same_bytes-self (get_or names i []) name _ here refl) in
    rw (at, lt-ltb i (length names) within) refl

pub found_where_it_stands : (names : List (List ℕ)) (name : List ℕ) (i : ℕ) → NamesDiffer names
    → (place_of names name ≡ Some i) ↔ (slice_get names i ≡ Some name)
found_where_it_stands names name i differ = (found_has_name names name i, stands_is_found names name i differ)

pub found_is_first : (names : List (List ℕ)) (name : List ℕ) (i : ℕ) → place_of names name ≡ Some i
    → (slice_get names i ≡ Some name) × ((k : ℕ) → k < i → slice_get names k ≢ Some name)
found_is_first names name i h = (found_has_name names name i h, λ k lt. first_of_name names name i k h lt)

-- where no name is found, none stands
nowhere_found : (names : List (List ℕ)) (name : List ℕ) (t : Bool)
    → nat_lt (position_or_len (λ n. same_bytes n name) names) (length names) ≡ t → place_of names name ≡ None
    → length names ≤ position_or_len (λ n. same_bytes n name) names
nowhere_found names name true e h =
    let some : place_of names name ≡ Some (position_or_len (λ n. same_bytes n name) names) = rw e refl in
    absurd (some_is_none (sym some ∙ h))
  where
    some_is_none : {i : ℕ} → ◌≡◌ {A = Option ℕ} (Some i) None → ⊥
    some_is_none h = cc
nowhere_found names name false e h = ltb-false _ _ e

nowhere_stands : (names : List (List ℕ)) (name : List ℕ) (i : ℕ) → place_of names name ≡ None → slice_get names i ≢ Some name
nowhere_stands names name i h e =
    let within : i < length names = slice_get_within names i name e in
    let far : length names ≤ position_or_len (λ n. same_bytes n name) names = nowhere_found names name _ refl h in
    let here : get_or names i [] ≡ name = get_or_from_slice_get names i name [] e in
    let same : same_bytes (get_or names i []) name ≡ true = same_bytes-self (get_or names i []) name _ here refl in
    let other : not (same_bytes (get_or names i []) name) ≡ true = prefix_len_passes (λ n. not (same_bytes n name)) names i [] (omega arith) in
    true≢false (sym (rw same at other))

pub absent_where_none : (names : List (List ℕ)) (name : List ℕ) → (place_of names name ≡ None) ↔ ((i : ℕ) → slice_get names i ≢ Some name)
absent_where_none names name = (λ h i. nowhere_stands names name i h, λ none. no_place (place_of names name) refl none)
  where
    no_place : (r : Option ℕ) → place_of names name ≡ r → ((i : ℕ) → slice_get names i ≢ Some name) → r ≡ None
    no_place None h none = refl
    no_place (Some i) h none = absurd (none i (found_has_name names name i h))
