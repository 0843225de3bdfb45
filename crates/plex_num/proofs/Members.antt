-- What stands in a list.
use Rattle.std.proofs.Common.{◌≡◌, ◌⊎◌, inl, inr, ℕ, zero, suc, Bool, true, false, ◌||◌, nat_eq}
use Rattle.std.proofs.Common.{cond, List, [], ◌∷◌, map, refl, sym, ap, ◌∙◌, subst, arith}
use Rattle.std.specs.List.{Contains, filter, list_any}
use Rattle.std.proofs.lemmas.Bool.{eqb-true}

pub none_in : {A : Type 0} (x : A) → Contains [] x → ⊥
none_in x c = (let lt = c.1 in omega arith)

pub first_is : {A : Type 0} (x : A) (xs : List A) → Contains (x ∷ xs) x
first_is x xs = (0, omega arith, refl)

pub later_is : {A : Type 0} (y x : A) (xs : List A) → Contains xs x → Contains (y ∷ xs) x
later_is y x xs h = let lt = h.1 in (suc h.0, omega arith, h.2)

pub first_or_later : {A : Type 0} (y x : A) (xs : List A) → Contains (y ∷ xs) x → (y ≡ x) ⊎ Contains xs x
first_or_later y x xs (zero, lt, is) = inl is
first_or_later y x xs (suc i, lt, is) = inr (i, (let h = lt in omega arith), is)

pub in_map : {A B : Type 0} (f : A → B) (xs : List A) (x : A) → Contains xs x → Contains (map f xs) (f x)
in_map f [] x h = absurd (none_in x h)
in_map f (y ∷ xs) x (zero, lt, is) = subst (λ z. Contains (map f (y ∷ xs)) z) (ap f is) (first_is (f y) (map f xs))
in_map f (y ∷ xs) x (suc i, lt, is) = later_is (f y) (f x) (map f xs) (in_map f xs x (i, (let h = lt in omega arith), is))

pub in_filter : {A : Type 0} (p : A → Bool) (xs : List A) (x : A) → p x ≡ true → Contains xs x → Contains (filter p xs) x
in_filter p [] x e c = absurd (none_in x c)
in_filter p (y ∷ xs) x e (zero, lt, is) = subst (λ b. Contains (cond b (y ∷ filter p xs) (filter p xs)) x) (sym (ap p is ∙ e)) (0, omega arith, is)
in_filter p (y ∷ xs) x e (suc k, lt, is) = by (p y) (in_filter p xs x e (k, (let h = lt in omega arith), is))
  where
    by : (b : Bool) → Contains (filter p xs) x → Contains (cond b (y ∷ filter p xs) (filter p xs)) x
    by true rest = later_is y x (filter p xs) rest
    by false rest = rest

-- a number that a search finds
pub found_in : (n : ℕ) (ns : List ℕ) → list_any (nat_eq n) ns ≡ true → Contains ns n
found_in n [] is = absurd (let clash : false ≡ true = is in cc)
found_in n (m ∷ ns) is = by (nat_eq n m) refl is (found_in n ns)
  where
    by : (b : Bool) → nat_eq n m ≡ b → (b || list_any (nat_eq n) ns) ≡ true → (list_any (nat_eq n) ns ≡ true → Contains ns n) → Contains (m ∷ ns) n
    by true same some more = subst (Contains (m ∷ ns)) (sym (eqb-true n m same)) (first_is m ns)
    by false same some more = later_is m n ns (more some)
