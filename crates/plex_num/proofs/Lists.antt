-- Small facts of lists: what stands at a place, what holds of all, and how they are put together.
use Rattle.std.proofs.Common.{◌≡◌, ◌⊎◌, inl, inr, ⊎_elim, ℕ, zero, suc, ◌+◌, ◌-◌, ◌<◌, ◌≤◌, Bool}
use Rattle.std.proofs.Common.{◌||◌, not, cond, List, [], ◌∷◌, ◌++◌, length, drop, map, replicate}
use Rattle.std.proofs.Common.{get_or, position, Some, slice_get, slice_set, refl, sym, subst, ap}
use Rattle.std.proofs.Common.{◌∙◌, arith}
use Rattle.std.proofs.lemmas.List.{append_assoc, drop_more, length-map}
use Rattle.std.proofs.lemmas.List.Recursion.{same_from_clauses}
use Rattle.std.proofs.lemmas.Option.{none-some, same_Some, slice_get-map, slice_get_past}
use Rattle.std.specs.List.{AllByRecursion, list_any, position_or_len, slice_index}
use Rattle.std.specs.Option.{option_map, option_map_or}

-- what stands at a place

pub slice_get-append_left : {A : Type 0} (xs ys : List A) (i : ℕ) → i < length xs → slice_get (xs ++ ys) i ≡ slice_get xs i
slice_get-append_left [] ys i h = absurd (omega arith)
slice_get-append_left (x ∷ xs) ys zero h = refl
slice_get-append_left (x ∷ xs) ys (suc i) h = slice_get-append_left xs ys i (omega arith)

pub slice_get-append_right : {A : Type 0} (xs ys : List A) (i : ℕ) → length xs ≤ i → slice_get (xs ++ ys) i ≡ slice_get ys (i - length xs)
slice_get-append_right [] ys i h = ap (slice_get ys) (omega arith)
slice_get-append_right (x ∷ xs) ys zero h = absurd (omega arith)
slice_get-append_right (x ∷ xs) ys (suc i) h = slice_get-append_right xs ys i (omega arith) ∙ ap (slice_get ys) (omega arith)

-- the item that follows a list
pub slice_get-append_seam : {A : Type 0} (xs : List A) (y : A) (ys : List A) → slice_get (xs ++ y ∷ ys) (length xs) ≡ Some y
slice_get-append_seam [] y ys = refl
slice_get-append_seam (x ∷ xs) y ys = slice_get-append_seam xs y ys

-- what stands in a list stands there in a longer one too
pub got_more : {A : Type 0} (xs ys : List A) (i : ℕ) (x : A) → slice_get xs i ≡ Some x → slice_get (xs ++ ys) i ≡ Some x
got_more [] ys i x is = absurd (none-some x is)
got_more (y ∷ xs) ys zero x is = is
got_more (y ∷ xs) ys (suc i) x is = got_more xs ys i x is

-- so far behind the end of a list
pub get_after : {A : Type 0} (xs ys : List A) (i : ℕ) → slice_get (xs ++ ys) (length xs + i) ≡ slice_get ys i
get_after [] ys i = ap (slice_get ys) (let z : 0 + i ≡ i = omega arith in z)
get_after (x ∷ xs) ys i = ap (slice_get (x ∷ xs ++ ys)) (let n : length (x ∷ xs) + i ≡ suc (length xs + i) = omega arith in n) ∙ get_after xs ys i

-- after a push stands what stood there, or the new item
pub get_push : {A : Type 0} (xs : List A) (x y : A) (m : ℕ) → slice_get (xs ++ x ∷ []) m ≡ Some y → (slice_get xs m ≡ Some y) ⊎ ((m ≡ length xs) × (x ≡ y))
get_push [] x y zero there = inr (refl, same_Some x y there)
get_push [] x y (suc m) there = absurd (none-some y there)
get_push (z ∷ xs) x y zero there = inl there
get_push (z ∷ xs) x y (suc m) there = ⊎_elim inl (λ h. inr (let e = h.0 in omega arith, h.1)) (get_push xs x y m there)

pub got_map : {A B : Type 0} (f : A → B) (xs : List A) (i : ℕ) (x : A) → slice_get xs i ≡ Some x → slice_get (map f xs) i ≡ Some (f x)
got_map f xs i x there = slice_get-map f xs i ∙ ap (option_map f) there

-- what is found at a place, or a default past the end
pub found_at : {A B : Type 0} (xs : List A) (i : ℕ) (x : A) (b : B) (f : A → B) → slice_get xs i ≡ Some x → option_map_or f (slice_get xs i) b ≡ f x
found_at xs i x b f there = ap (λ o. option_map_or f o b) there

pub found_past : {A B : Type 0} (xs : List A) (i : ℕ) (b : B) (f : A → B) → length xs ≤ i → option_map_or f (slice_get xs i) b ≡ b
found_past xs i b f past = ap (λ o. option_map_or f o b) (slice_get_past xs i past)

pub index_zeros : (n k : ℕ) → slice_index (replicate n 0) k ≡ 0
index_zeros zero k = refl
index_zeros (suc n) zero = refl
index_zeros (suc n) (suc k) = index_zeros n k

-- a list in which one item is set

pub get_set_same : {A : Type 0} (xs : List A) (i : ℕ) (a : A) → i < length xs → slice_get (slice_set xs i a) i ≡ Some a
get_set_same [] i a lt = absurd (omega arith)
get_set_same (x ∷ xs) zero a lt = refl
get_set_same (x ∷ xs) (suc i) a lt = get_set_same xs i a (omega arith)

pub get_set_other : {A : Type 0} (xs : List A) (i j : ℕ) (a : A) → (j ≡ i → ⊥) → slice_get (slice_set xs i a) j ≡ slice_get xs j
get_set_other [] i j a other = refl
get_set_other (x ∷ xs) zero zero a other = absurd (other refl)
get_set_other (x ∷ xs) zero (suc j) a other = refl
get_set_other (x ∷ xs) (suc i) zero a other = refl
get_set_other (x ∷ xs) (suc i) (suc j) a other = get_set_other xs i j a (λ e. other (ap suc e))

-- the rest of a list begins with the item at its place
pub opens : {X : Type 0} (xs : List X) (i : ℕ) (x : X) → i < length xs → x ≡ get_or xs i x → drop i xs ≡ x ∷ drop (i + 1) xs
opens xs i x lt is = drop_more xs i x lt ∙ ap (λ y. y ∷ drop (i + 1) xs) (sym is)

-- something stands at each place
pub some_at : {A : Type 0} (xs : List A) (i : ℕ) → i < length xs → (x : A) × (slice_get xs i ≡ Some x)
some_at [] i lt = absurd (omega arith)
some_at (x ∷ xs) zero lt = (x, refl)
some_at (x ∷ xs) (suc i) lt = some_at xs i (omega arith)

-- what holds of all

pub all_at : {A : Type 0} (P : A → Type 0) (xs : List A) (i : ℕ) (x : A) → AllByRecursion P xs → slice_get xs i ≡ Some x → P x
all_at P [] i x all h = absurd (none-some x h)
all_at P (y ∷ ys) zero x all h = subst P (same_Some y x h) all.0
all_at P (y ∷ ys) (suc i) x all h = all_at P ys i x all.1 h

pub all_here : {X : Type 0} (P : X → Type 0) (xs : List X) (i : ℕ) (x : X) → AllByRecursion P xs → i < length xs → x ≡ get_or xs i x → P x
all_here P [] i x all inside is = absurd (omega arith)
all_here P (y ∷ ys) zero x all inside is = subst P (sym is) all.0
all_here P (y ∷ ys) (suc i) x all inside is = all_here P ys i x all.1 (omega (arith, inside)) is

pub all_from : {A : Type 0} (P : A → Type 0) (xs : List A) → ((i : ℕ) (x : A) → slice_get xs i ≡ Some x → P x) → AllByRecursion P xs
all_from P [] h = tt
all_from P (x ∷ xs) h = (h 0 x refl, all_from P xs (λ i y e. h (suc i) y e))

pub all_append : {A : Type 0} (P : A → Type 0) (xs ys : List A) → AllByRecursion P xs → AllByRecursion P ys → AllByRecursion P (xs ++ ys)
all_append P [] ys a b = b
all_append P (x ∷ xs) ys a b = (a.0, all_append P xs ys a.1 b)

pub all_left : {A : Type 0} (P : A → Type 0) (xs ys : List A) → AllByRecursion P (xs ++ ys) → AllByRecursion P xs
all_left P [] ys h = tt
all_left P (x ∷ xs) ys h = (h.0, all_left P xs ys h.1)

pub all_right : {A : Type 0} (P : A → Type 0) (xs ys : List A) → AllByRecursion P (xs ++ ys) → AllByRecursion P ys
all_right P [] ys h = h
all_right P (x ∷ xs) ys h = all_right P xs ys h.1

pub all_both : {A : Type 0} (P Q : A → Type 0) (xs : List A) → AllByRecursion P xs → AllByRecursion Q xs → AllByRecursion (λ x. P x × Q x) xs
all_both P Q [] p q = tt
all_both P Q (x ∷ xs) p q = ((p.0, q.0), all_both P Q xs p.1 q.1)

pub all_drop : {A : Type 0} (P : A → Type 0) (n : ℕ) (xs : List A) → AllByRecursion P xs → AllByRecursion P (drop n xs)
all_drop P zero xs all = all
all_drop P (suc n) [] all = all
all_drop P (suc n) (x ∷ xs) all = all_drop P n xs all.1

pub all_weaker : {A : Type 0} (P Q : A → Type 0) (xs : List A) → ((x : A) → P x → Q x) → AllByRecursion P xs → AllByRecursion Q xs
all_weaker P Q [] f all = tt
all_weaker P Q (x ∷ xs) f all = (f x all.0, all_weaker P Q xs f all.1)

pub all_push : {A : Type 0} (P : A → Type 0) (xs : List A) (y : A) → AllByRecursion P xs → P y → AllByRecursion P (xs ++ y ∷ [])
all_push P [] y all here = (here, tt)
all_push P (x ∷ xs) y all here = (all.0, all_push P xs y all.1 here)

pub all_last : {A : Type 0} (P : A → Type 0) (xs : List A) (y : A) → AllByRecursion P (xs ++ y ∷ []) → P y
all_last P [] y all = all.0
all_last P (x ∷ xs) y all = all_last P xs y all.1

-- what a mapped list tells

pub any_map : {A B : Type 0} (f : A → B) (p : B → Bool) (xs : List A) → list_any p (map f xs) ≡ list_any (λ x. p (f x)) xs
any_map f p [] = refl
any_map f p (x ∷ xs) = ap (λ b. p (f x) || b) (any_map f p xs)

pub position_map : {A B : Type 0} (f : A → B) (p : B → Bool) (xs : List A) → position p (map f xs) ≡ position (λ x. p (f x)) xs
position_map {A = A} f p xs =
    let same = same_from_clauses (λ (ys : List A). position_or_len p (map f ys)) (position_or_len (λ (x : A). p (f x)))
    (λ (x : A) (n : ℕ). cond (not (p (f x))) (1 + n) 0) refl (λ x ys. refl) (λ x ys. refl) xs in
    rw (same, length-map xs f) refl

-- lists that are put together in two steps

pub append_two : {A : Type 0} (old middle new first second : List A) → middle ≡ old ++ first → new ≡ middle ++ second → new ≡ old ++ (first ++ second)
append_two old middle new first second one two = two ∙ ap (λ list. list ++ second) one ∙ append_assoc old first second

pub append_one : {A : Type 0} (xs : List A) (x : A) (ys : List A) → (xs ++ x ∷ []) ++ ys ≡ xs ++ x ∷ ys
append_one xs x ys = append_assoc xs (x ∷ []) ys
