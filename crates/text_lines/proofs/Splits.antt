-- Lists cut at the places that pass a test.
use Rattle.std.proofs.Common.{◌≡◌, ℕ, suc, ◌+◌, ◌≤◌, Bool, true, false, not, cond, nat_lt, eqb}
use Rattle.std.proofs.Common.{List, [], ◌∷◌, length, drop, take, position, Some, None, refl, ap}
use Rattle.std.proofs.Common.{◌∙◌, arith, inl, inr}
use Rattle.std.specs.List.{slice_split, onto_first, position_or_len}
use Rattle.std.proofs.lemmas.List.Splits.{slice_split_first}
use Rattle.std.proofs.lemmas.Bool.{cases_Bool, ltb-false, ltb-true}
use Rattle.std.proofs.lemmas.Bool.Decides.{nat_tests}

pub suc_ne : (n : ℕ) → eqb (suc n) 0 ≡ false
suc_ne n = grind (arith, nat_tests)

-- what a place says
place_some : (b : Bool) (i j : ℕ) → cond b (Some j) None ≡ Some i → (b ≡ true) × (j ≡ i)
place_some true i j e = (refl, cc)
place_some false i j e = cc

place_none : (b : Bool) (j : ℕ) → cond b (Some j) None ≡ None → b ≡ false
place_none true j e = cc
place_none false j e = refl

-- a list cut at the first place that passes
pub split_at : (p : ℕ → Bool) (xs : List ℕ) (i : ℕ) → position p xs ≡ Some i → slice_split p xs ≡ take i xs ∷ slice_split p (drop (i + 1) xs)
split_at p xs i e =
    let at = place_some (nat_lt (position_or_len p xs) (length xs)) i (position_or_len p xs) e in
    slice_split_first p xs 0 (ltb-true (position_or_len p xs) (length xs) at.0) ∙ ap (λ j. take j xs ∷ slice_split p (drop (j + 1) xs)) at.1

all_left : (p : ℕ → Bool) (xs : List ℕ) → length xs ≤ position_or_len p xs → slice_split p xs ≡ xs ∷ []
all_left p [] le = refl
all_left p (x ∷ xs) le = elim (cases_Bool (p x)) [
  | inl y ↦ let z : position_or_len p (x ∷ xs) ≡ 0 = ap (λ b. cond (not b) (1 + position_or_len p xs) 0) y in absurd (omega (arith, z, le))
  | inr n ↦
      let z : position_or_len p (x ∷ xs) ≡ 1 + position_or_len p xs = ap (λ b. cond (not b) (1 + position_or_len p xs) 0) n in
      ap (λ b. cond b ([] ∷ slice_split p xs) (onto_first x (slice_split p xs))) n ∙ ap (onto_first x) (all_left p xs (omega (arith, z, le)))
]

pub split_none : (p : ℕ → Bool) (xs : List ℕ) → position p xs ≡ None → slice_split p xs ≡ xs ∷ []
split_none p xs e = all_left p xs (ltb-false (position_or_len p xs) (length xs)
    (place_none (nat_lt (position_or_len p xs) (length xs)) (position_or_len p xs) e))

-- there is always a part
pub some_part : (p : ℕ → Bool) (xs : List ℕ) → (y : List ℕ) × (ys : List (List ℕ)) × (slice_split p xs ≡ y ∷ ys)
some_part p [] = ([], [], refl)
some_part p (x ∷ xs) = elim (cases_Bool (p x)) [
  | inl t ↦ ([], slice_split p xs, ap (λ b. cond b ([] ∷ slice_split p xs) (onto_first x (slice_split p xs))) t)
  | inr f ↦ let r = some_part p xs in (x ∷ r.0, r.1, ap (λ b. cond b ([] ∷ slice_split p xs) (onto_first x (slice_split p xs))) f ∙ ap (onto_first x) r.2)
]
