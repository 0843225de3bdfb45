-- Lists over ranges of numbers, built one number at a time.
use Rattle.std.proofs.Common.{◌≡◌, ℕ, ◌+◌, ◌≤◌, List, [], ◌∷◌, ◌++◌, map, sym, ap, ◌∙◌, subst}
use Rattle.std.proofs.Common.{arith, append_assoc, append-nil}
use Rattle.std.specs.List.{range_with_len}
use Rattle.std.proofs.lemmas.List.FromFn.{map-range_with_len_more}
use Rattle.exchange_model.specs.Inside.{joined}
use Rattle.exchange_model.proofs.Lists.{joined_push}

module _ {X : Type 0} (f : ℕ → X) where
  grown : (n : ℕ) → map f (range_with_len 0 (n + 1)) ≡ map f (range_with_len 0 n) ++ f n ∷ []
  grown n = map-range_with_len_more f 0 n n (omega arith)

  pub range_begin : (old : List X) → old ≡ old ++ map f (range_with_len 0 0)
  range_begin old = sym (append-nil old)

  pub range_more : (n : ℕ) (old now new : List X) → now ≡ old ++ map f (range_with_len 0 n) → new ≡ now ++ f n ∷ []
      → new ≡ old ++ map f (range_with_len 0 (n + 1))
  range_more n old now new is made =
      made ∙ ap (λ l. l ++ f n ∷ []) is ∙ append_assoc old (map f (range_with_len 0 n)) (f n ∷ []) ∙ ap (λ l. old ++ l) (sym (grown n))

  pub range_end : (n count : ℕ) (old now : List X) → n ≤ count → count ≤ n → now ≡ old ++ map f (range_with_len 0 n)
      → now ≡ old ++ map f (range_with_len 0 count)
  range_end n count old now low high is = (let same : n ≡ count = omega (arith, low, high) in subst (λ k. now ≡ old ++ map f (range_with_len 0 k)) same is)

module _ {X : Type 0} (f : ℕ → List X) where
  abbrev rows : ℕ → List X
  rows n = joined (map f (range_with_len 0 n))

  rows_grown : (n : ℕ) → rows (n + 1) ≡ rows n ++ f n
  rows_grown n = ap joined (grown f n) ∙ joined_push (map f (range_with_len 0 n)) (f n)

  pub rows_begin : (front none now : List X) → none ≡ [] → now ≡ none ++ front → now ≡ front ++ joined (map f (range_with_len 0 0))
  rows_begin front none now empty is = is ∙ ap (λ l. l ++ front) empty ∙ sym (append-nil front)

  pub rows_more : (n : ℕ) (front now new : List X) → now ≡ front ++ joined (map f (range_with_len 0 n))
      → new ≡ now ++ f n → new ≡ front ++ joined (map f (range_with_len 0 (n + 1)))
  rows_more n front now new is made = made ∙ ap (λ l. l ++ f n) is ∙ append_assoc front (rows n) (f n) ∙ ap (λ l. front ++ l) (sym (rows_grown n))

  pub rows_end : (n count : ℕ) (front now : List X) → n ≤ count → count ≤ n
      → now ≡ front ++ joined (map f (range_with_len 0 n)) → now ≡ front ++ joined (map f (range_with_len 0 count))
  rows_end n count front now low high is = (let same : n
      ≡ count = omega (arith, low, high) in subst (λ k. now ≡ front ++ joined (map f (range_with_len 0 k))) same is)
