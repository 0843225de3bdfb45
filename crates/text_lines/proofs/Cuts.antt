-- Bytes cut at the first that is a certain one.
use Rattle.std.proofs.Common.{◌≡◌, ◌≢◌, ℕ, suc, ◌+◌, ◌≤◌, Bool, true, false, not, cond, nat_lt}
use Rattle.std.proofs.Common.{nat_eq, List, [], ◌∷◌, ◌++◌, length, take, drop, position, Option}
use Rattle.std.proofs.Common.{Some, None, unwrap_or, refl, sym, ap, subst, ◌∙◌, arith}
use Rattle.std.specs.List.{list_all, prefix_len, position_or_len}
use Rattle.std.proofs.lemmas.Bool.{and_parts, and_from, ltb-false, true≢false, eqb-true, eq-eqb}
use Rattle.std.proofs.lemmas.Bool.{ne_eqb, not_from_true, not_from_false}
use Rattle.std.proofs.lemmas.List.Folds.{list_all-append}
use Rattle.std.proofs.lemmas.List.Sums.{prefix_len-le-length}
use Rattle.text_lines.specs.Parts.{HasNo, StartsWith}

one_more : (n : ℕ) → 1 + n ≡ suc n
one_more n = omega arith

front_passes : (p : ℕ → Bool) (xs : List ℕ) → list_all p (take (prefix_len p xs) xs) ≡ true
front_passes p [] = refl
front_passes p (x ∷ xs) = at (p x) refl (front_passes p xs)
  where
    at : (b : Bool) → p x ≡ b → list_all p (take (prefix_len p xs) xs) ≡ true → list_all p (take (cond b (1 + prefix_len p xs) 0) (x ∷ xs)) ≡ true
    at true passes rest = ap (λ n. list_all p (take n (x ∷ xs))) (one_more (prefix_len p xs))
        ∙ and_from (p x) (list_all p (take (prefix_len p xs) xs)) passes rest
    at false passes rest = refl

first_place : (p : ℕ → Bool) (xs : List ℕ) → unwrap_or (position p xs) (length xs) ≡ position_or_len p xs
first_place p xs = at (nat_lt (position_or_len p xs) (length xs)) refl
  where
    at : (b : Bool) → nat_lt (position_or_len p xs) (length xs) ≡ b → unwrap_or (cond b (Some (position_or_len p xs)) None) (length xs) ≡ position_or_len p xs
    at true e = refl
    at false e =
        let past : length xs ≤ position_or_len p xs = ltb-false (position_or_len p xs) (length xs) e in
        let within : position_or_len p xs ≤ length xs = prefix_len-le-length (λ x. not (p x)) xs in
        omega (arith, past, within)

-- what stands before the first such byte has none
pub HasNo-before : (end : ℕ) (xs : List ℕ) (place : Option ℕ) (at : ℕ) (front : List ℕ)
    → place ≡ position (λ b. nat_eq b end) xs → at ≡ unwrap_or place (length xs) → front ≡ take at xs → HasNo end front
unfolding HasNo
HasNo-before end xs place at front first is cut =
    let passes : list_all (λ b. not (nat_eq b end)) (take (position_or_len (λ b. nat_eq b end) xs) xs) ≡ true = front_passes (λ b. not (nat_eq b end)) xs in
    let same : at ≡ position_or_len (λ b. nat_eq b end) xs = is ∙ ap (λ p. unwrap_or p (length xs)) first ∙ first_place (λ b. nat_eq b end) xs in
    ap (list_all (λ b. not (nat_eq b end))) (cut ∙ ap (λ k. take k xs) same) ∙ passes

rest_starts : (end : ℕ) (xs : List ℕ) → StartsWith end (drop (position_or_len (λ b. nat_eq b end) xs) xs)
rest_starts end [] = tt
rest_starts end (x ∷ xs) = at (nat_eq x end) refl (rest_starts end xs)
  where
    at : (b : Bool) → nat_eq x end ≡ b → StartsWith end (drop (position_or_len (λ c. nat_eq c end) xs) xs)
        → StartsWith end (drop (cond (not b) (1 + position_or_len (λ c. nat_eq c end) xs) 0) (x ∷ xs))
    at true e rest = eqb-true x end e
    at false e rest = subst (λ n. StartsWith end (drop n (x ∷ xs))) (sym (one_more (position_or_len (λ c. nat_eq c end) xs))) rest

-- what stands from there on starts with it
pub StartsWith-from : (end : ℕ) (xs : List ℕ) (place : Option ℕ) (at : ℕ) (back : List ℕ)
    → place ≡ position (λ b. nat_eq b end) xs → at ≡ unwrap_or place (length xs) → back ≡ drop at xs
    → StartsWith end back
StartsWith-from end xs place at back first is cut =
    let same : at ≡ position_or_len (λ b. nat_eq b end) xs = is ∙ ap (λ p. unwrap_or p (length xs)) first ∙ first_place (λ b. nat_eq b end) xs in
    subst (StartsWith end) (sym (cut ∙ ap (λ k. drop k xs) same)) (rest_starts end xs)

pub HasNo-cons : (end b : ℕ) (xs : List ℕ) → b ≢ end → HasNo end xs → HasNo end (b ∷ xs)
unfolding HasNo
HasNo-cons end b xs other h = and_from (not (nat_eq b end)) (list_all (λ c. not (nat_eq c end)) xs) (not_from_false (nat_eq b end) (ne_eqb b end other)) h

pub HasNo-append : (end : ℕ) (xs ys : List ℕ) → HasNo end xs → HasNo end ys → HasNo end (xs ++ ys)
unfolding HasNo
HasNo-append end xs ys h k = list_all-append (λ b. not (nat_eq b end)) xs ys
    ∙ and_from (list_all (λ b. not (nat_eq b end)) xs) (list_all (λ b. not (nat_eq b end)) ys) h k

-- a byte before which it does not stand is not it
pub HasNo-head : (end b : ℕ) (xs : List ℕ) → HasNo end (b ∷ xs) → b ≢ end
unfolding HasNo
HasNo-head end b xs h e =
    let not_end : not (nat_eq b end) ≡ false = not_from_true (nat_eq b end) (eq-eqb b end e) in
    true≢false (sym (and_parts (not (nat_eq b end)) (list_all (λ c. not (nat_eq c end)) xs) h).0 ∙ not_end)

pub HasNo-tail : (end b : ℕ) (xs : List ℕ) → HasNo end (b ∷ xs) → HasNo end xs
unfolding HasNo
HasNo-tail end b xs h = (and_parts (not (nat_eq b end)) (list_all (λ c. not (nat_eq c end)) xs) h).1

-- bytes are cut at the first such byte in one way
pub cut_once : (end : ℕ) (a b x y : List ℕ) → HasNo end a → HasNo end b → StartsWith end x → StartsWith end y → a ++ x ≡ b ++ y → (a ≡ b) × (x ≡ y)
cut_once end [] [] x y na nb sx sy e = (refl, e)
cut_once end [] (c ∷ b) [] y na nb sx sy e = let no : ◌≡◌ {A = List ℕ} [] (c ∷ b ++ y) = e in cc
cut_once end [] (c ∷ b) (d ∷ x) y na nb sx sy e =
    let same : d ≡ c = cc in
    absurd (HasNo-head end c b nb (sym same ∙ sx))
cut_once end (c ∷ a) [] x [] na nb sx sy e = let no : ◌≡◌ {A = List ℕ} (c ∷ a ++ x) [] = e in cc
cut_once end (c ∷ a) [] x (d ∷ y) na nb sx sy e =
    let same : c ≡ d = cc in
    absurd (HasNo-head end c a na (same ∙ sy))
cut_once end (c ∷ a) (d ∷ b) x y na nb sx sy e =
    let same : c ≡ d = cc in
    let rest : a ++ x ≡ b ++ y = cc in
    let more = cut_once end a b x y (HasNo-tail end c a na) (HasNo-tail end d b nb) sx sy rest in
    (ap (λ h. h ∷ a) same ∙ ap (λ t. d ∷ t) more.0, more.1)
