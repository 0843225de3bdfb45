-- Views of seats, and their places in a list.
use Rattle.std.proofs.Common.{◌≡◌, ◌⊎◌, ℕ, zero, suc, List, [], ◌∷◌, ◌++◌, length, set, sym, refl}
use Rattle.std.proofs.Common.{ap, inl, inr, ⊎_elim}
use mathlib.Core.Option.{some, some-injective, some-ne-none}
use lib.ListN.{get_elem?}
use Rattle.shared_store.specs.declared.view.Top.{Top}
use Rattle.shared_store.specs.declared.view.Hold.{Hold}
use Rattle.shared_store.specs.declared.view.View.TheVariants.{Root, Loan, Spent}
use Rattle.shared_store.specs.Seats.{top_of, hold_of}

pub same_loan : (h i : Hold) → some (Loan h) ≡ some (Loan i) → h ≡ i
same_loan h i e = ap hold_of (some-injective (Loan h) (Loan i) e)

pub same_root : (t u : Top) → some (Root t) ≡ some (Root u) → t ≡ u
same_root t u e = ap top_of (some-injective (Root t) (Root u) e)

pub loan-not-root : (h : Hold) (t : Top) → some (Loan h) ≡ some (Root t) → ⊥
loan-not-root h t e = let k = some-injective (Loan h) (Root t) e in cc

pub root-not-spent : (t : Top) → Spent ≡ Root t → ⊥
root-not-spent t e = cc

pub loan-not-spent : (h : Hold) → Spent ≡ Loan h → ⊥
loan-not-spent h e = cc

module _ {A : Type 0} where
  pub set_at : (l : List A) (i : ℕ) (a b : A) → get_elem? l i ≡ some a → get_elem? (set l i b) i ≡ some b
  set_at [] i a b e = absurd (some-ne-none a (sym e))
  set_at (x ∷ xs) zero a b e = refl
  set_at (x ∷ xs) (suc i) a b e = set_at xs i a b e

  pub snoc_at : (l : List A) (a b : A) (j : ℕ) → get_elem? (l ++ a ∷ []) j ≡ some b → (get_elem? l j ≡ some b) ⊎ ((j ≡ length l) × (a ≡ b))
  snoc_at [] a b zero e = inr (refl, some-injective a b e)
  snoc_at [] a b (suc j) e = absurd (some-ne-none b (sym e))
  snoc_at (x ∷ xs) a b zero e = inl e
  snoc_at (x ∷ xs) a b (suc j) e = ⊎_elim (λ c. inl c) (λ c. inr (ap suc c.0, c.1)) (snoc_at xs a b j e)
