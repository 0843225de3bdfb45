-- A list of all cases, put in order.
use Rattle.std.proofs.Common.{◌≡◌, ◌⊎◌, inl, inr, List, [], ◌∷◌, Contains, refl, sym, ap, ◌∙◌}
use Rattle.std.proofs.Common.{subst}
use Rattle.std.specs.Cmp.{IsTotalOrder}
use Rattle.std.specs.List.{AllByRecursion}
use Rattle.std.specs.List.Sorted.{IsStrictlySortedBy}
use Rattle.std.specs.Ordering.{ordering_reverse}
use Rattle.std.specs.declared.cmp.Ordering.{Ordering}
use Rattle.std.specs.declared.cmp.Ordering.TheVariants.{Less, Equal, Greater}
use Rattle.plex_num.proofs.Members.{none_in, first_is, later_is, first_or_later}
use Rattle.finite_facts.proofs.Finite.{Listed}

-- a list of all cases in order
pub record Rises {K : Type 0} (R : K → K → Ordering) (P : K → Type 0) : Type 0 where
  pub listed : Listed P
  pub rising : IsStrictlySortedBy R listed.items

module _ {K : Type 0} (R : K → K → Ordering) (o : IsTotalOrder R) (tied : (x y : K) → R x y ≡ Equal → x ≡ y) where
  abbrev placed : Ordering → K → K → List K → List K → List K
  placed Less k y ys more = k ∷ y ∷ ys
  placed Equal k y ys more = y ∷ ys
  placed Greater k y ys more = y ∷ more

  -- put where it belongs
  abbrev put : K → List K → List K
  put k [] = k ∷ []
  put k (y ∷ ys) = placed (R k y) k y ys (put k ys)

  abbrev sorted : List K → List K
  sorted [] = []
  sorted (k ∷ ks) = put k (sorted ks)

  -- what stands in it

  put_has : (k : K) (ys : List K) → Contains (put k ys) k
  put_has k [] = first_is k []
  put_has k (y ∷ ys) = by (R k y) refl (put_has k ys)
    where
      by : (r : Ordering) → R k y ≡ r → Contains (put k ys) k → Contains (placed r k y ys (put k ys)) k
      by Less is more = first_is k (y ∷ ys)
      by Equal is more = subst (Contains (y ∷ ys)) (sym (tied k y is)) (first_is y ys)
      by Greater is more = later_is y k (put k ys) more

  put_keeps : (k : K) (ys : List K) (z : K) → Contains ys z → Contains (put k ys) z
  put_keeps k [] z c = absurd (none_in z c)
  put_keeps k (y ∷ ys) z c = by (R k y) (first_or_later y z ys c) (put_keeps k ys z)
    where
      by : (r : Ordering) → (y ≡ z) ⊎ Contains ys z → (Contains ys z → Contains (put k ys) z) → Contains (placed r k y ys (put k ys)) z
      by Less h more = later_is k z (y ∷ ys) c
      by Equal h more = c
      by Greater (inl is) more = subst (Contains (y ∷ put k ys)) is (first_is y (put k ys))
      by Greater (inr d) more = later_is y z (put k ys) (more d)

  put_from : (k : K) (ys : List K) (z : K) → Contains (put k ys) z → (k ≡ z) ⊎ Contains ys z
  put_from k [] z c = first_or_later k z [] c
  put_from k (y ∷ ys) z c = by (R k y) c (put_from k ys z)
    where
      at : (y ≡ z) ⊎ Contains (put k ys) z → (Contains (put k ys) z → (k ≡ z) ⊎ Contains ys z) → (k ≡ z) ⊎ Contains (y ∷ ys) z
      at (inl is) more = inr (subst (Contains (y ∷ ys)) is (first_is y ys))
      at (inr d) more = next (more d)
        where
          next : (k ≡ z) ⊎ Contains ys z → (k ≡ z) ⊎ Contains (y ∷ ys) z
          next (inl is) = inl is
          next (inr e) = inr (later_is y z ys e)

      by : (r : Ordering) → Contains (placed r k y ys (put k ys)) z → (Contains (put k ys) z → (k ≡ z) ⊎ Contains ys z) → (k ≡ z) ⊎ Contains (y ∷ ys) z
      by Less d more = first_or_later k z (y ∷ ys) d
      by Equal d more = inr d
      by Greater d more = at (first_or_later y z (put k ys) d) more

  sorted_has : (ks : List K) (z : K) → Contains ks z → Contains (sorted ks) z
  sorted_has [] z c = absurd (none_in z c)
  sorted_has (k ∷ ks) z c = by (first_or_later k z ks c) (sorted_has ks z)
    where
      by : (k ≡ z) ⊎ Contains ks z → (Contains ks z → Contains (sorted ks) z) → Contains (put k (sorted ks)) z
      by (inl is) more = subst (Contains (put k (sorted ks))) is (put_has k (sorted ks))
      by (inr d) more = put_keeps k (sorted ks) z (more d)

  sorted_from : (ks : List K) (z : K) → Contains (sorted ks) z → Contains ks z
  sorted_from [] z c = absurd (none_in z c)
  sorted_from (k ∷ ks) z c = by (put_from k (sorted ks) z c) (sorted_from ks z)
    where
      by : (k ≡ z) ⊎ Contains (sorted ks) z → (Contains (sorted ks) z → Contains ks z) → Contains (k ∷ ks) z
      by (inl is) more = subst (Contains (k ∷ ks)) is (first_is k ks)
      by (inr d) more = later_is k z ks (more d)

  -- it rises

  all_put : (P : K → Type 0) (k : K) (ys : List K) → P k → AllByRecursion P ys → AllByRecursion P (put k ys)
  all_put P k [] h all = (h, tt)
  all_put P k (y ∷ ys) h all = by (R k y) (all_put P k ys h)
    where
      by : (r : Ordering) → (AllByRecursion P ys → AllByRecursion P (put k ys)) → AllByRecursion P (placed r k y ys (put k ys))
      by Less more = (h, all)
      by Equal more = all
      by Greater more = (all.0, more all.1)

  all_later : (k y : K) (ys : List K) → R k y ≡ Less → AllByRecursion (λ z. R y z ≡ Less) ys → AllByRecursion (λ z. R k z ≡ Less) ys
  all_later k y [] is all = tt
  all_later k y (z ∷ ys) is all = (o.trans k y z is all.0, all_later k y ys is all.1)

  put_rises : (k : K) (ys : List K) → IsStrictlySortedBy R ys → IsStrictlySortedBy R (put k ys)
  unfolding IsStrictlySortedBy
  put_rises k [] h = (tt, tt)
  put_rises k (y ∷ ys) h = by (R k y) refl (put_rises k ys)
    where
      by : (r : Ordering) → R k y ≡ r → (IsStrictlySortedBy R ys → IsStrictlySortedBy R (put k ys)) → IsStrictlySortedBy R (placed r k y ys (put k ys))
      by Less is more = ((is, all_later k y ys is h.0), h)
      by Equal is more = h
      by Greater is more = (all_put (λ z. R y z ≡ Less) k ys (o.antisymm y k ∙ ap ordering_reverse is) h.0, more h.1)

  sorted_rises : (ks : List K) → IsStrictlySortedBy R (sorted ks)
  unfolding IsStrictlySortedBy
  sorted_rises [] = tt
  sorted_rises (k ∷ ks) = put_rises k (sorted ks) (sorted_rises ks)

  pub in_order : (P : K → Type 0) → Listed P → Rises R P
  in_order P l = record {
    listed = record { items = sorted l.items; all = λ k p. sorted_has l.items k (l.all k p); each = λ k c. l.each k (sorted_from l.items k c) };
    rising = sorted_rises l.items;
  }
