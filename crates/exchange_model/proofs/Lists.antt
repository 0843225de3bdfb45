-- How long joined lists are, what stands at a place of them, and how they are put together.
use Rattle.std.proofs.Common.{◌≡◌, ℕ, zero, suc, ◌+◌, ◌-◌, ◌*◌, ◌<◌, ◌≤◌, List, [], ◌∷◌, ◌++◌}
use Rattle.std.proofs.Common.{length, take, map, sum_by, replicate, Some, slice_get, refl, sym, ap}
use Rattle.std.proofs.Common.{◌∙◌, arith, length-append, append_assoc, append-nil}
use Rattle.std.proofs.lemmas.List.Sums.{sum_by-cons}
use Rattle.std.proofs.lemmas.Option.{none-some, same_Some}
use Rattle.plex_num.proofs.Lists.{slice_get-append_left, slice_get-append_right}
use Rattle.exchange_model.specs.Inside.{joined}

pub length-joined-map : {X T : Type 0} (f : X → List T) (xs : List X) → length (joined (map f xs)) ≡ sum_by (λ x. length (f x)) xs
length-joined-map f [] = refl
length-joined-map f (x ∷ xs) =
    let more : sum_by (λ y. length (f y)) (x ∷ xs) ≡ length (f x) + sum_by (λ y. length (f y)) xs = sum_by-cons (λ y. length (f y)) x xs in
    omega (arith, length-append (f x) (joined (map f xs)), length-joined-map f xs, more)

pub slice_get-joined-map : {X T : Type 0} (f : X → List T) (xs : List X) (i j : ℕ) (x : X) → slice_get xs i ≡ Some x
    → j < length (f x) → slice_get (joined (map f xs)) (sum_by (λ y. length (f y)) (take i xs) + j) ≡ slice_get (f x) j
slice_get-joined-map f [] i j x h lt = absurd (none-some x h)
slice_get-joined-map f (y ∷ ys) zero j x h lt =
    let same : y ≡ x = same_Some y x h in
    let within : j < length (f y) = omega (arith, ap (λ z. length (f z)) same) in
    let none : 0 + j ≡ j = omega arith in
    ap (slice_get (f y ++ joined (map f ys))) none ∙ slice_get-append_left (f y) (joined (map f ys)) j within ∙ ap (λ z. slice_get (f z) j) same
slice_get-joined-map f (y ∷ ys) (suc i) j x h lt =
    let rest = slice_get-joined-map f ys i j x h lt in
    let more : sum_by (λ z. length (f z)) (y ∷ take i ys) ≡ length (f y) + sum_by (λ z. length (f z)) (take i ys) =
    sum_by-cons (λ z. length (f z)) y (take i ys) in
    let at : ℕ = sum_by (λ z. length (f z)) (y ∷ take i ys) + j in
    let past : length (f y) ≤ at = omega (arith, more) in
    let left : at - length (f y) ≡ sum_by (λ z. length (f z)) (take i ys) + j = omega (arith, more) in
    slice_get-append_right (f y) (joined (map f ys)) at past ∙ ap (slice_get (joined (map f ys))) left ∙ rest

pub length-joined-replicate : {T : Type 0} (n : ℕ) (r : List T) → length (joined (replicate n r)) ≡ n * length r
length-joined-replicate zero r = omega arith
length-joined-replicate (suc n) r =
    omega (arith, length-append r (joined (replicate n r)), length-joined-replicate n r)

pub slice_get-joined-replicate : {T : Type 0} (n : ℕ) (r : List T) (i j : ℕ) → i < n → j < length r
    → slice_get (joined (replicate n r)) (i * length r + j) ≡ slice_get r j
slice_get-joined-replicate zero r i j lt within = absurd (omega arith)
slice_get-joined-replicate (suc n) r zero j lt within =
    let none : 0 * length r + j ≡ j = omega arith in
    ap (slice_get (r ++ joined (replicate n r))) none ∙ slice_get-append_left r (joined (replicate n r)) j within
slice_get-joined-replicate (suc n) r (suc i) j lt within =
    let past : length r ≤ suc i * length r + j = omega arith in
    let left : suc i * length r + j - length r ≡ i * length r + j = omega arith in
    slice_get-append_right r (joined (replicate n r)) (suc i * length r + j) past
    ∙ ap (slice_get (joined (replicate n r))) left ∙ slice_get-joined-replicate n r i j (omega arith) within

pub joined_append : {T : Type 0} (xs ys : List (List T)) → joined (xs ++ ys) ≡ joined xs ++ joined ys
joined_append [] ys = refl
joined_append (x ∷ xs) ys = ap (λ l. x ++ l) (joined_append xs ys) ∙ sym (append_assoc x (joined xs) (joined ys))

pub joined_push : {T : Type 0} (xs : List (List T)) (x : List T) → joined (xs ++ x ∷ []) ≡ joined xs ++ x
joined_push [] x = append-nil x
joined_push (y ∷ xs) x = ap (λ l. y ++ l) (joined_push xs x) ∙ sym (append_assoc y (joined xs) x)
