-- Where an access stands in a list in order.
use Rattle.std.proofs.Common.{◌≡◌, ◌⊎◌, inl, inr, ⊎_elim, ℕ, ◌+◌, ◌<◌, ◌≤◌, true, false, List}
use Rattle.std.proofs.Common.{length, get_or, Some, Err, sym, ap, ◌∙◌, arith, rules}
use Rattle.std.specs.Prelude.{slice_get}
use Rattle.std.specs.declared.cmp.Ordering.{Ordering}
use Rattle.std.specs.declared.cmp.Ordering.TheVariants.{Less, Equal, Greater}
use Rattle.std.specs.List.{Contains}
use Rattle.std.specs.List.Sorted.{IsBinarySearchResult, IsPartitionPoint, IsStrictlySortedBy}
use Rattle.std.specs.Ordering.{is_eq, is_lt, ordering_reverse}
use Rattle.std.proofs.lemmas.Bool.{cases_lt, cases_order}
use Rattle.std.proofs.lemmas.Cmp.{tied_itself}
use Rattle.std.proofs.lemmas.List.Sorted.{searchable_from_sorted}
use Rattle.std.proofs.lemmas.Map.Keys.{Less-from_sorted}
use Rattle.std.proofs.lemmas.Option.{get_or_from_slice_get, slice_get_within}
use Rattle.plex_num.proofs.Lists.{some_at}
use Rattle.entry_summary.specs.declared.summary.Access.{Access}
use Rattle.entry_summary.specs.contracts.summary.AccessPartialEq.TheImpl as equal
use Rattle.entry_summary.specs.contracts.summary.AccessOrd.TheImpl.Laws.{total-law, matches_eq-law}
use Rattle.entry_summary.specs.Orders.{access_order}

pub contained : {A : Type 0} (xs : List A) (i : ℕ) (x : A) → slice_get xs i ≡ Some x → Contains xs x
contained xs i x at = (i, slice_get_within xs i x at, get_or_from_slice_get xs i x x at)

itself : (a : Access) → access_order a a ≡ Equal
itself a = tied_itself total-law a

same_access : (a b : Access) → equal.ghosts.eq a b ≡ true → a ≡ b
same_access a b is = search (rules, is)

pub equal_is : (a b : Access) → access_order a b ≡ Equal → a ≡ b
equal_is a b e = same_access a b (matches_eq-law a b ∙ ap is_eq e)

module _ (xs : List Access) (up : IsStrictlySortedBy access_order xs) where
  not_before : (i j : ℕ) (a : Access) → slice_get xs i ≡ Some a → slice_get xs j ≡ Some a → i < j → ⊥
  not_before i j a at there lt =
      let one : get_or xs i a ≡ a = get_or_from_slice_get xs i a a at in
      let other : get_or xs j a ≡ a = get_or_from_slice_get xs j a a there in
      let less : access_order (get_or xs i a) (get_or xs j a) ≡ Less = Less-from_sorted access_order xs i j a up lt (slice_get_within xs j a there) in
      let own : access_order a a ≡ Less = (λ k. access_order (sym one k) (sym other k)) ∙ less in
      let no : Equal ≡ Less = sym (itself a) ∙ own in
      cc

  -- it stands at one place alone
  pub place_once : (i j : ℕ) (a : Access) → slice_get xs i ≡ Some a → slice_get xs j ≡ Some a → i ≡ j
  place_once i j a at there =
      ⊎_elim (λ same. same) (λ apart. ⊎_elim (λ lt. absurd (not_before i j a at there lt))
      (λ gt. absurd (not_before j i a there at gt)) apart) (cases_order i j)

  pub found_place : (a : Access) (place : ℕ) → place < length xs → ((d : Access) → access_order (get_or xs place d) a ≡ Equal) → slice_get xs place ≡ Some a
  found_place a place lt same =
      let s = some_at xs place lt in
      let is : get_or xs place s.0 ≡ s.0 = get_or_from_slice_get xs place s.0 s.0 s.1 in
      let e : s.0 ≡ a = equal_is s.0 a (ap (λ b. access_order b a) (sym is) ∙ same s.0) in
      s.1 ∙ ap Some e

  falls : (i j : ℕ) (d : Access) → i < j → j < length xs → access_order (get_or xs j d) (get_or xs i d) ≡ Greater
  falls i j d lt inside = total-law.antisymm (get_or xs j d) (get_or xs i d) ∙ ap ordering_reverse (Less-from_sorted access_order xs i j d up lt inside)

  searchable : (k : ℕ) (d : Access) → 0 ≤ k → k + 1 < length xs → is_lt (access_order (get_or xs (k + 1) d) (get_or xs k d)) ≡ false
  searchable k d le lt = ap is_lt (falls k (k + 1) d (omega arith) lt)

  pub missing_place : (a : Access) (place : ℕ) → IsBinarySearchResult {X = Access} (λ b. access_order b a) xs (Err place) → Contains xs a → ⊥
  missing_place a place found c = by_place (cases_lt c.0 place)
    where
      parted : IsPartitionPoint {X = Access} (λ b. access_order b a ≡ Less) (λ b. access_order b a ≡ Greater) xs place
      parted = found (searchable_from_sorted total-law (λ (b : Access). b) xs a searchable)

      own : (o : Ordering) → access_order (get_or xs c.0 a) a ≡ o → Equal ≡ o
      own o e = sym (ap (λ b. access_order b a) c.2 ∙ itself a) ∙ e

      by_place : (c.0 < place) ⊎ (place ≤ c.0) → ⊥
      by_place (inl low) = (let no : Equal ≡ Less = own Less (parted.0 c.0 a (omega arith) low) in cc)
      by_place (inr past) = (let no : Equal ≡ Greater = own Greater (parted.1 c.0 a past c.1) in cc)
