-- Properties of which a list tells all cases, and what can be decided.
use Rattle.std.proofs.Common.{◌≡◌, ◌⊎◌, inl, inr, ℕ, zero, suc, ◌+◌, ◌<◌, ◌≤◌, Bool, true, false}
use Rattle.std.proofs.Common.{nat_lt, nat_eq, List, [], ◌∷◌, ◌++◌, Option, Some, None, refl, sym}
use Rattle.std.proofs.Common.{ap, subst, arith}
use Rattle.std.proofs.lemmas.Bool.{ltb-true, ltb-false, eqb-true, eqb-false}
use Rattle.std.proofs.lemmas.List.Elements.{Contains-append_left, Contains-append_right}
use Rattle.std.proofs.lemmas.List.Elements.{Contains-append_cases}
use Rattle.std.proofs.lemmas.Option.{none-some, same_Some}
use Rattle.std.specs.List.{Contains}
use Rattle.plex_num.proofs.Members.{none_in, first_is, later_is, first_or_later}

-- it holds, or it does not
pub data Decided (A : Type 0) : Type 0 where
  yes : A → Decided A
  no : (A → ⊥) → Decided A

-- exactly what a list has
pub record Listed {A : Type 0} (P : A → Type 0) : Type 0 where
  pub items : List A
  pub all : (a : A) → P a → Contains items a
  pub each : (a : A) → Contains items a → P a

-- decisions

pub decided_as : {A B : Type 0} → (A → B) → (B → A) → Decided A → Decided B
decided_as to from (yes a) = yes (to a)
decided_as to from (no n) = no (λ b. n (from b))

pub both : {A B : Type 0} → Decided A → Decided B → Decided (A × B)
both (yes a) (yes b) = yes (a, b)
both (yes a) (no n) = no (λ p. n p.1)
both (no n) b = no (λ p. n p.0)

pub either : {A B : Type 0} → Decided A → Decided B → Decided (A ⊎ B)
either (yes a) b = yes (inl a)
either (no n) (yes b) = yes (inr b)
either {A} {B} (no n) (no m) = no neither
  where
    neither : A ⊎ B → ⊥
    neither (inl a) = n a
    neither (inr b) = m b

pub refuted : {A : Type 0} → Decided A → Decided (A → ⊥)
refuted (yes a) = no (λ n. n a)
refuted (no n) = yes n

pub certain : {A : Type 0} → A → Decided A
certain a = yes a

pub impossible : Decided ⊥
impossible = no (λ h. h)

pub truth : (b : Bool) → Decided (b ≡ true)
truth true = yes refl
truth false = no (λ h. cc)

pub falsehood : (b : Bool) → Decided (b ≡ false)
falsehood false = yes refl
falsehood true = no (λ h. cc)

pub less : (m n : ℕ) → Decided (m < n)
less m n = by (nat_lt m n) refl
  where
    by : (b : Bool) → nat_lt m n ≡ b → Decided (m < n)
    by true is = yes (ltb-true m n is)
    by false is = no (λ lt. let le = ltb-false m n is in omega (arith, le, lt))

pub at_most : (m n : ℕ) → Decided (m ≤ n)
at_most m n = decided_as (λ lt. let h = lt in omega (arith, h)) (λ le. let h = le in omega (arith, h)) (less m (n + 1))

pub same_number : (m n : ℕ) → Decided (m ≡ n)
same_number m n = by (nat_eq m n) refl
  where
    by : (b : Bool) → nat_eq m n ≡ b → Decided (m ≡ n)
    by true is = yes (eqb-true m n is)
    by false is = no (eqb-false m n is)

pub same_option : {A : Type 0} → ((a b : A) → Decided (a ≡ b)) → (o : Option A) (b : A) → Decided (o ≡ Some b)
same_option same None b = no (λ h. none-some b h)
same_option same (Some a) b = decided_as (λ e. ap Some e) (λ e. same_Some a b e) (same a b)

pub same_list : {A : Type 0} → ((a b : A) → Decided (a ≡ b)) → (xs ys : List A) → Decided (xs ≡ ys)
same_list same [] [] = yes refl
same_list same [] (y ∷ ys) = no (λ e. cc)
same_list same (x ∷ xs) [] = no (λ e. cc)
same_list same (x ∷ xs) (y ∷ ys) = decided_as (λ p. (λ i. p.0 i ∷ p.1 i)) (λ e. (heads x y xs ys e, tails x y xs ys e)) (both (same x y) (same_list same xs ys))
  where
    heads : {A : Type 0} (u v : A) (us vs : List A) → u ∷ us ≡ v ∷ vs → u ≡ v
    heads u v us vs e = cc

    tails : {A : Type 0} (u v : A) (us vs : List A) → u ∷ us ≡ v ∷ vs → us ≡ vs
    tails u v us vs e = cc

pub there_is : {A : Type 0} (o : Option A) → Decided ((a : A) × (o ≡ Some a))
there_is None = no (λ h. none-some h.0 h.1)
there_is (Some a) = yes (a, refl)

-- lists of all cases

module _ {A : Type 0} where
  pub listed_none : (P : A → Type 0) → ((a : A) → P a → ⊥) → Listed P
  listed_none P never = record { items = []; all = λ a h. absurd (never a h); each = λ a c. absurd (none_in a c) }

  pub listed_one : (b : A) → Listed (λ (a : A). a ≡ b)
  listed_one b = record { items = b ∷ []; all = λ a is. subst (Contains (b ∷ [])) (sym is) (first_is b []); each = λ a c. only a (first_or_later b a [] c) }
    where
      only : (a : A) → (b ≡ a) ⊎ Contains [] a → a ≡ b
      only a (inl is) = sym is
      only a (inr c) = absurd (none_in a c)

  pub listed_in : (xs : List A) → Listed (λ (a : A). Contains xs a)
  listed_in xs = record { items = xs; all = λ a h. h; each = λ a h. h }

  pub listed_as : (P Q : A → Type 0) → ((a : A) → P a → Q a) → ((a : A) → Q a → P a) → Listed P → Listed Q
  listed_as P Q to from l = record { items = l.items; all = λ a q. l.all a (from a q); each = λ a c. to a (l.each a c) }

  pub listed_or : (P Q : A → Type 0) → Listed P → Listed Q → Listed (λ a. P a ⊎ Q a)
  listed_or P Q l m = record { items = l.items ++ m.items; all = all; each = λ a c. each a (Contains-append_cases l.items m.items a c) }
    where
      all : (a : A) → P a ⊎ Q a → Contains (l.items ++ m.items) a
      all a (inl p) = Contains-append_left l.items m.items a (l.all a p)
      all a (inr q) = Contains-append_right l.items m.items a (m.all a q)

      each : (a : A) → Contains l.items a ⊎ Contains m.items a → P a ⊎ Q a
      each a (inl c) = inl (l.each a c)
      each a (inr c) = inr (m.each a c)

  pub listed_when : (Q : Type 0) (P : A → Type 0) → Decided Q → (Q → Listed P) → Listed (λ a. Q × P a)
  listed_when Q P (yes q) l = listed_as P (λ a. Q × P a) (λ a p. (q, p)) (λ a p. p.1) (l q)
  listed_when Q P (no n) l = listed_none (λ a. Q × P a) (λ a p. n p.0)

  pub listed_some : (o : Option A) → Listed (λ (a : A). o ≡ Some a)
  listed_some None = listed_none (λ a. None ≡ Some a) (λ a h. none-some a h)
  listed_some (Some b) = listed_as (λ a. a ≡ b) (λ a. Some b ≡ Some a) (λ a e. ap Some (sym e)) (λ a e. sym (same_Some b a e)) (listed_one b)

  -- whether there is one
  pub any : (P : A → Type 0) → Listed P → Decided ((a : A) × P a)
  any P l = by l.items l.all l.each
    where
      by : (xs : List A) → ((a : A) → P a → Contains xs a) → ((a : A) → Contains xs a → P a) → Decided ((a : A) × P a)
      by [] all each = no (λ h. none_in h.0 (all h.0 h.1))
      by (x ∷ xs) all each = yes (x, each x (first_is x xs))

  -- whether an item is in a list
  pub is_in : ((a b : A) → Decided (a ≡ b)) → (xs : List A) (a : A) → Decided (Contains xs a)
  is_in same [] a = no (λ c. none_in a c)
  is_in same (x ∷ xs) a = decided_as here there (either (same x a) (is_in same xs a))
    where
      here : (x ≡ a) ⊎ Contains xs a → Contains (x ∷ xs) a
      here (inl is) = subst (Contains (x ∷ xs)) is (first_is x xs)
      here (inr c) = later_is x a xs c

      there : Contains (x ∷ xs) a → (x ≡ a) ⊎ Contains xs a
      there c = first_or_later x a xs c

module _ {A B : Type 0} where
  -- what one of the items of a list leads to
  over : (xs : List A) (Q : A → B → Type 0) → ((a : A) → Contains xs a → Listed (Q a)) → Listed (λ (b : B). (a : A) × Contains xs a × Q a b)
  over [] Q each = listed_none (λ b. (a : A) × Contains [] a × Q a b) (λ b h. none_in h.0 h.1)
  over (x ∷ xs) Q each =
      listed_as (λ b. Q x b ⊎ ((a : A) × Contains xs a × Q a b)) (λ b. (a : A) × Contains (x ∷ xs) a × Q a b) to from
      (listed_or (Q x) (λ b. (a : A) × Contains xs a × Q a b) (each x (first_is x xs)) (over xs Q (λ a c. each a (later_is x a xs c))))
    where
      to : (b : B) → Q x b ⊎ ((a : A) × Contains xs a × Q a b) → (a : A) × Contains (x ∷ xs) a × Q a b
      to b (inl q) = (x, first_is x xs, q)
      to b (inr h) = (h.0, later_is x h.0 xs h.1, h.2)

      at : (b : B) (a : A) → Q a b → (x ≡ a) ⊎ Contains xs a → Q x b ⊎ ((a : A) × Contains xs a × Q a b)
      at b a q (inl is) = inl (subst (λ c. Q c b) (sym is) q)
      at b a q (inr c) = inr (a, c, q)

      from : (b : B) → (a : A) × Contains (x ∷ xs) a × Q a b → Q x b ⊎ ((a : A) × Contains xs a × Q a b)
      from b h = at b h.0 h.2 (first_or_later x h.0 xs h.1)

  -- what one of all cases leads to
  pub listed_then : (P : A → Type 0) (Q : A → B → Type 0) → Listed P → ((a : A) → P a → Listed (Q a)) → Listed (λ (b : B). (a : A) × P a × Q a b)
  listed_then P Q l each =
      listed_as (λ b. (a : A) × Contains l.items a × Q a b) (λ b. (a : A) × P a × Q a b)
      (λ b h. (h.0, l.each h.0 h.1, h.2)) (λ b h. (h.0, l.all h.0 h.1, h.2))
      (over l.items Q (λ a c. each a (l.each a c)))

module _ {A : Type 0} where
  pub listed_if : (P Q : A → Type 0) → Listed P → ((a : A) → P a → Decided (Q a)) → Listed (λ (a : A). P a × Q a)
  listed_if P Q l decided =
      listed_as (λ b. (a : A) × P a × (Q a × (b ≡ a))) (λ b. P b × Q b)
      (λ b h. (subst P (sym h.2.1) h.1, subst Q (sym h.2.1) h.2.0)) (λ b h. (b, h.0, (h.1, refl)))
      (listed_then P (λ a b. Q a × (b ≡ a)) l (λ a p. listed_when (Q a) (λ b. b ≡ a) (decided a p) (λ q. listed_one a)))

  -- whether some case is such, and whether each is
  pub some_case : (P Q : A → Type 0) → Listed P → ((a : A) → P a → Decided (Q a)) → Decided ((a : A) × P a × Q a)
  some_case P Q l decided = decided_as (λ h. (h.0, h.1.0, h.1.1)) (λ h. (h.0, (h.1, h.2))) (any (λ a. P a × Q a) (listed_if P Q l decided))

  pub each_case : (P Q : A → Type 0) → Listed P → ((a : A) → P a → Decided (Q a)) → Decided ((a : A) → P a → Q a)
  each_case P Q l decided = by (some_case P (λ a. Q a → ⊥) l (λ a p. refuted (decided a p)))
    where
      at : (a : A) → ((b : A) × P b × (Q b → ⊥) → ⊥) → (p : P a) → Decided (Q a) → Q a
      at a none p (yes q) = q
      at a none p (no n) = absurd (none (a, p, n))

      by : Decided ((a : A) × P a × (Q a → ⊥)) → Decided ((a : A) → P a → Q a)
      by (yes h) = no (λ all. h.2 (all h.0 h.1))
      by (no n) = yes (λ a p. at a n p (decided a p))

module _ {A B : Type 0} where
  -- pairs of all cases
  pub listed_pair : (P : A → Type 0) (Q : B → Type 0) → Listed P → Listed Q → Listed (λ (p : A × B). P p.0 × Q p.1)
  listed_pair P Q l m =
      listed_as (λ p. (a : A) × P a × ((b : B) × Q b × (p ≡ (a, b)))) (λ p. P p.0 × Q p.1)
      (λ p h. (subst P (sym (ap (λ (r : A × B). r.0) h.2.2)) h.1, subst Q (sym (ap (λ (r : A × B). r.1) h.2.2)) h.2.1))
      (λ p h. (p.0, h.0, (p.1, h.1, refl)))
      (listed_then P (λ a p. (b : B) × Q b × (p ≡ (a, b))) l (λ a h. listed_then Q (λ b p. p ≡ (a, b)) m (λ b k. listed_one (a, b))))

  -- the values of a function at all cases
  pub listed_map : (P : A → Type 0) (f : A → B) → Listed P → Listed (λ (b : B). (a : A) × P a × (b ≡ f a))
  listed_map P f l = listed_then P (λ a b. b ≡ f a) l (λ a p. listed_one (f a))

-- the numbers below a number

up_to : (i n : ℕ) → i < suc n → (i < n) ⊎ (i ≡ n)
up_to i n lt = by (nat_lt i n) refl
  where
    by : (b : Bool) → nat_lt i n ≡ b → (i < n) ⊎ (i ≡ n)
    by true is = inl (ltb-true i n is)
    by false is = inr (let le = ltb-false i n is in let h = lt in omega (arith, le, h))

pub below : (n : ℕ) → Listed (λ (i : ℕ). i < n)
below zero = listed_none (λ i. i < zero) (λ i lt. let h = lt in omega (arith, h))
below (suc n) = listed_as (λ i. (i < n) ⊎ (i ≡ n)) (λ i. i < suc n) to (λ i lt. up_to i n lt) (listed_or (λ i. i < n) (λ i. i ≡ n) (below n) (listed_one n))
  where
    to : (i : ℕ) → (i < n) ⊎ (i ≡ n) → i < suc n
    to i (inl lt) = let h = lt in omega (arith, h)
    to i (inr is) = let h = is in omega (arith, h)

-- the values of a function at the numbers below one

abbrev pub IsMadeBelow : {A : Type 0} → (ℕ → A) → ℕ → A → Type 0
IsMadeBelow make most a = (n : ℕ) × (n < most) × (a ≡ make n)

pub made : {A : Type 0} (make : ℕ → A) (most : ℕ) → Listed (IsMadeBelow make most)
made make most = listed_map (λ n. n < most) make (below most)
