-- Lists that rise in one order and have the same items are the same; so are lists that have the
-- same item at each place.
use Rattle.std.proofs.Common.{◌≡◌, ◌↔◌, ◌⊎◌, inl, inr, ℕ, suc, Bool, true, false, List, [], ◌∷◌}
use Rattle.std.proofs.Common.{length, Some, slice_get, refl, sym, ap, ◌∙◌, subst, arith}
use Rattle.std.specs.Cmp.{IsTotalOrder}
use Rattle.std.specs.List.{AllByRecursion, Contains}
use Rattle.std.specs.List.Sorted.{IsStrictlySortedBy}
use Rattle.std.specs.declared.cmp.Ordering.{Ordering}
use Rattle.std.specs.declared.cmp.Ordering.TheVariants.{Less}
use Rattle.std.proofs.lemmas.Cmp.{tied_itself}
use Rattle.plex_num.proofs.Members.{first_is, first_or_later, later_is, none_in}

-- two that say the same of a third say the same of each other
pub same_sides : {A B C : Type 0} → A ↔ C → B ↔ C → A ↔ B
same_sides one other = ((λ a. other.1 (one.0 a)), (λ b. one.1 (other.0 b)))

pub same_truth : (a b : Bool) → (a ≡ true) ↔ (b ≡ true) → a ≡ b
same_truth true true same = refl
same_truth true false same = sym (same.0 refl)
same_truth false true same = same.1 refl
same_truth false false same = refl

module _ {K : Type 0} (R : K → K → Ordering) (o : IsTotalOrder R) where
  not_below_itself : (x : K) → R x x ≡ Less → ⊥
  not_below_itself x less = let clash = sym less ∙ tied_itself o x in cc

  not_below_both : (x y : K) → R x y ≡ Less → R y x ≡ Less → ⊥
  not_below_both x y less more = not_below_itself x (o.trans x y x less more)

  below_each : (x : K) (xs : List K) (k : K) → AllByRecursion (λ y. R x y ≡ Less) xs → Contains xs k → R x k ≡ Less
  below_each x [] k all here = absurd (none_in k here)
  below_each x (y ∷ xs) k all here = by (first_or_later y k xs here) (below_each x xs k all.1)
    where
      by : (y ≡ k) ⊎ Contains xs k → (Contains xs k → R x k ≡ Less) → R x k ≡ Less
      by (inl is) more = subst (λ z. R x z ≡ Less) is all.0
      by (inr there) more = more there

  same_first : (x y : K) (xs ys : List K) → AllByRecursion (λ z. R x z ≡ Less) xs
      → AllByRecursion (λ z. R y z ≡ Less) ys → Contains (y ∷ ys) x → Contains (x ∷ xs) y → x ≡ y
  same_first x y xs ys a b one other = by (first_or_later y x ys one) (first_or_later x y xs other)
    where
      by : (y ≡ x) ⊎ Contains ys x → (x ≡ y) ⊎ Contains xs y → x ≡ y
      by (inl is) two = sym is
      by (inr there) (inl is) = is
      by (inr there) (inr also) = absurd (not_below_both x y (below_each x xs y a also) (below_each y ys x b there))

  in_rest : (x y k : K) (xs ys : List K) → x ≡ y → AllByRecursion (λ z. R x z ≡ Less) xs → Contains xs k → Contains (y ∷ ys) k → Contains ys k
  in_rest x y k xs ys same all here there = by (first_or_later y k ys there)
    where
      by : (y ≡ k) ⊎ Contains ys k → Contains ys k
      by (inl is) = absurd (not_below_itself x (subst (λ z. R x z ≡ Less) (sym (same ∙ is)) (below_each x xs k all here)))
      by (inr rest) = rest

  pub rising_once : (xs ys : List K) → IsStrictlySortedBy R xs → IsStrictlySortedBy R ys → ((k : K) → Contains xs k ↔ Contains ys k) → xs ≡ ys
  unfolding IsStrictlySortedBy
  rising_once [] [] a b same = refl
  rising_once [] (y ∷ ys) a b same = absurd (none_in y ((same y).1 (first_is y ys)))
  rising_once (x ∷ xs) [] a b same = absurd (none_in x ((same x).0 (first_is x xs)))
  rising_once (x ∷ xs) (y ∷ ys) a b same =
      let first : x ≡ y = same_first x y xs ys a.0 b.0 ((same x).0 (first_is x xs)) ((same y).1 (first_is y ys)) in
      let rest : xs ≡ ys = rising_once xs ys a.1 b.1 (λ k. (
        (λ here. in_rest x y k xs ys first a.0 here ((same k).0 (later_is x k xs here))),
        (λ here. in_rest y x k ys xs (sym first) b.0 here ((same k).1 (later_is y k ys here))),
      )) in
      ap (λ z. z ∷ xs) first ∙ ap (λ zs. y ∷ zs) rest

pub same_at_each : {A : Type 0} (xs ys : List A) → length xs ≡ length ys
    → ((i : ℕ) (a b : A) → slice_get xs i ≡ Some a → slice_get ys i ≡ Some b → a ≡ b) → xs ≡ ys
same_at_each [] [] long each = refl
same_at_each [] (y ∷ ys) long each = absurd (omega (arith, long))
same_at_each (x ∷ xs) [] long each = absurd (omega (arith, long))
same_at_each (x ∷ xs) (y ∷ ys) long each =
    ap (λ z. z ∷ xs) (each 0 x y refl refl)
    ∙ ap (λ zs. y ∷ zs) (same_at_each xs ys (omega (arith, long)) (λ i a b. each (suc i) a b))
