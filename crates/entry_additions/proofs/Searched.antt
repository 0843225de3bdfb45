-- The result of a binary search in ordered numbers.
use Rattle.std.proofs.Common.{◌≡◌, ◌⊎◌, inl, inr, ⊎_elim, ℕ, ◌<◌, ◌≤◌, List, length, get_or, Ok}
use Rattle.std.proofs.Common.{Err, sym, ap, ◌∙◌, arith}
use Rattle.std.specs.List.{Contains}
use Rattle.std.specs.List.Sorted.{IsBinarySearchResult, IsStrictlySortedBy}
use Rattle.std.specs.Ordering.{nat_cmp}
use Rattle.std.specs.declared.cmp.Ordering.TheVariants.{Less}
use Rattle.std.proofs.lemmas.Bool.{cases_lt}
use Rattle.std.proofs.lemmas.Cmp.{ranked}
use Rattle.std.proofs.lemmas.List.{get_or_default}
use Rattle.std.proofs.lemmas.List.Sorted.{searched}
use Rattle.std.proofs.lemmas.Map.Keys.{Less-from_sorted}

module _ (xs : List ℕ) (up : IsStrictlySortedBy nat_cmp xs) where
  rises : (i j : ℕ) → i ≤ j → j < length xs → get_or xs i 0 ≤ get_or xs j 0
  rises i j le lt = by (cases_lt i j)
    where
      by : (i < j) ⊎ (j ≤ i) → get_or xs i 0 ≤ get_or xs j 0
      by (inl below) = (let less = ranked (get_or xs i 0) (get_or xs j 0) Less (sym (Less-from_sorted nat_cmp xs i j 0 up below lt)) in omega (arith, less))
      by (inr above) =
          let same : i ≡ j = omega (arith, le, above) in
          let value : get_or xs i 0 ≡ get_or xs j 0 = ap (λ k. get_or xs k 0) same in
          omega (arith, value)

  pub is_found : (n place : ℕ) → IsBinarySearchResult (λ y. nat_cmp y n) xs (Ok place) → Contains xs n
  is_found n place found = (let s = searched xs n (Ok place) found rises in (place, s.0, get_or_default xs place n 0 s.0 ∙ s.1))

  pub is_missing : (n place : ℕ) → IsBinarySearchResult (λ y. nat_cmp y n) xs (Err place) → Contains xs n → ⊥
  is_missing n place found c =
      let s = searched xs n (Err place) found rises in
      let is : get_or xs c.0 0 ≡ n = get_or_default xs c.0 0 n c.1 ∙ c.2 in
      ⊎_elim (λ below. (let low = s.1 c.0 below in omega (arith, is, low)))
      (λ above. (let high = s.2 c.0 above c.1 in omega (arith, is, high))) (cases_lt c.0 place)
