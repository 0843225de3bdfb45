-- A stable sort by count puts lines where their definition puts them.
use Rattle.std.proofs.Common.{◌≡◌, ℕ, zero, suc, ◌<◌, ◌≤◌, Bool, true, false, cond, List, [], ◌∷◌}
use Rattle.std.proofs.Common.{length, get_or, filter, nat_cmp, is_lt, refl, sym, ap, ◌∙◌, arith}
use Rattle.std.proofs.Common.{inl, inr, suc-le-suc, zero-le}
use Rattle.std.specs.Prelude.{nat_le}
use Rattle.std.specs.List.{AllByRecursion}
use Rattle.std.specs.List.Sorted.{ties, IsNonDecreasingBy, IsStableByKey}
use Rattle.std.proofs.lemmas.Bool.{cond-true, cond-false, cases_Bool, leb-true}
use Rattle.std.proofs.lemmas.Bool.Decides.{nat_tests}
use Rattle.signal_file.specs.declared.line.Line.{Line}
use Rattle.job_table.specs.Fit.{Rises}
use Rattle.job_table.specs.Merged.{by_count, placed_in}

abbrev pub count_of : Line → ℕ
count_of l = l.after

abbrev pub same_count : Line → Line → Bool
same_count = ties (λ x y. is_lt (nat_cmp (count_of x) (count_of y)))

ties_at : (m n : ℕ) → (ties (λ x y. is_lt (nat_cmp x y)) m n ≡ true → m ≡ n) × (m ≡ n → ties (λ x y. is_lt (nat_cmp x y)) m n ≡ true)
ties_at m n = (λ h. grind (arith, nat_tests), λ h. grind (arith, nat_tests))

pub same_count-true : (x y : Line) → same_count x y ≡ true → x.after ≡ y.after
same_count-true x y = (ties_at x.after y.after).0

pub same_count_from : (x y : Line) → x.after ≡ y.after → same_count x y ≡ true
same_count_from x y = (ties_at x.after y.after).1

filter-kept : (p : Line → Bool) (y : Line) (ys : List Line) → p y ≡ true → filter p (y ∷ ys) ≡ y ∷ filter p ys
filter-kept p y ys h = cond-true _ _ _ h

filter-dropped : (p : Line → Bool) (y : Line) (ys : List Line) → p y ≡ false → filter p (y ∷ ys) ≡ filter p ys
filter-dropped p y ys h = cond-false _ _ _ h

-- one line placed

pub not_up : (a b : ℕ) → nat_le a b ≡ false → b < a
not_up a b h = grind (arith, nat_tests)

pub placed_first : (l m : Line) (rest : List Line) → nat_le l.after m.after ≡ true → placed_in l (m ∷ rest) ≡ l ∷ m ∷ rest
unfolding placed_in
placed_first l m rest h = cond-true _ _ _ h

pub placed_later : (l m : Line) (rest : List Line) → nat_le l.after m.after ≡ false → placed_in l (m ∷ rest) ≡ m ∷ placed_in l rest
unfolding placed_in
placed_later l m rest h = cond-false _ _ _ h

pub placed_alone : (l : Line) → placed_in l [] ≡ l ∷ []
unfolding placed_in
placed_alone l = refl

pub length-placed : (l : Line) (ls : List Line) → length (placed_in l ls) ≡ suc (length ls)
length-placed l [] = ap length (placed_alone l)
length-placed l (m ∷ rest) = elim (cases_Bool (nat_le l.after m.after)) [
  | inl up ↦ ap length (placed_first l m rest up)
  | inr down ↦ ap length (placed_later l m rest down) ∙ ap suc (length-placed l rest)
]

pub all_placed : (P : Line → Type 0) (l : Line) (ls : List Line) → P l → AllByRecursion P ls → AllByRecursion P (placed_in l ls)
all_placed P l [] own all = rw (placed_alone l) (own, tt)
all_placed P l (m ∷ rest) own all = elim (cases_Bool (nat_le l.after m.after)) [
  | inl up ↦ rw (placed_first l m rest up) (own, all)
  | inr down ↦ rw (placed_later l m rest down) (all.0, all_placed P l rest own all.1)
]

filter-placed : (x l : Line) (ls : List Line) → filter (same_count x) (placed_in l ls) ≡ filter (same_count x) (l ∷ ls)
filter-placed x l [] = ap (filter (same_count x)) (placed_alone l)
filter-placed x l (m ∷ rest) =
    let p = same_count x in
    elim (cases_Bool (nat_le l.after m.after)) [
      | inl up ↦ ap (filter p) (placed_first l m rest up)
      | inr down ↦
          ap (filter p) (placed_later l m rest down)
          ∙ elim (cases_Bool (p m)) [
            | inr without ↦
                filter-dropped p m (placed_in l rest) without ∙ filter-placed x l rest
                ∙ ap (λ ls. cond (p l) (l ∷ ls) ls) (sym (filter-dropped p m rest without))
            | inl with ↦
                elim (cases_Bool (p l)) [
                  | inl both ↦ absurd (omega (arith, same_count-true x l both, same_count-true x m with, not_up l.after m.after down))
                  | inr only ↦
                      filter-kept p m (placed_in l rest) with ∙ ap (λ ls. m ∷ ls) (filter-placed x l rest ∙ filter-dropped p l rest only)
                      ∙ sym (filter-dropped p l (m ∷ rest) only ∙ filter-kept p m rest with)
                ]
          ]
    ]

-- all lines placed

pub by_count-cons : (l : Line) (ls : List Line) → by_count (l ∷ ls) ≡ placed_in l (by_count ls)
unfolding by_count
by_count-cons l ls = refl

pub by_count-nil : by_count [] ≡ []
unfolding by_count
by_count-nil = refl

pub length-by_count : (ls : List Line) → length (by_count ls) ≡ length ls
length-by_count [] = ap length by_count-nil
length-by_count (l ∷ ls) = ap length (by_count-cons l ls) ∙ length-placed l (by_count ls) ∙ ap suc (length-by_count ls)

pub all_by_count : (P : Line → Type 0) (ls : List Line) → AllByRecursion P ls → AllByRecursion P (by_count ls)
all_by_count P [] all = rw by_count-nil tt
all_by_count P (l ∷ ls) all = rw (by_count-cons l ls) (all_placed P l (by_count ls) all.0 (all_by_count P ls all.1))

pub filter-by_count : (x : Line) (ls : List Line) → filter (same_count x) (by_count ls) ≡ filter (same_count x) ls
filter-by_count x [] = ap (filter (same_count x)) by_count-nil
filter-by_count x (l ∷ ls) =
    ap (filter (same_count x)) (by_count-cons l ls) ∙ filter-placed x l (by_count ls)
    ∙ ap (λ more. cond (same_count x l) (l ∷ more) more) (filter-by_count x ls)

-- no count falls

abbrev AreAtLeast : ℕ → List Line → Type 0
AreAtLeast n ls = AllByRecursion (λ (l : Line). n ≤ l.after) ls

at_least-le : (n m : ℕ) (ls : List Line) → n ≤ m → AreAtLeast m ls → AreAtLeast n ls
at_least-le n m [] le h = tt
at_least-le n m (l ∷ ls) le h = let first = h.0 in (omega (arith, first, le), at_least-le n m ls le h.1)

at_least-at : (n : ℕ) (ls : List Line) → ((j : ℕ) (d : Line) → j < length ls → n ≤ (get_or ls j d).after) → AreAtLeast n ls
at_least-at n [] h = tt
at_least-at n (l ∷ ls) h = (h zero l (suc-le-suc zero-le), at_least-at n ls (λ j d lt. h (suc j) d (suc-le-suc lt)))

rises-sorted : (ls : List Line) → IsNonDecreasingBy count_of ls → Rises ls
rises-sorted [] h = tt
rises-sorted (l ∷ ls) h = (
  at_least-at l.after ls (λ j d lt. h zero (suc j) d zero-le (suc-le-suc lt)),
  rises-sorted ls (λ i j d le lt. h (suc i) (suc j) d (suc-le-suc le) (suc-le-suc lt)),
)

rises-placed : (l : Line) (ls : List Line) → Rises ls → Rises (placed_in l ls)
rises-placed l [] r = rw (placed_alone l) (tt, tt)
rises-placed l (m ∷ rest) r = elim (cases_Bool (nat_le l.after m.after)) [
  | inl up ↦
      let le = leb-true l.after m.after up in
      rw (placed_first l m rest up) ((le, at_least-le l.after m.after rest le r.0), r)
  | inr down ↦
      let less = not_up l.after m.after down in
      rw (placed_later l m rest down) (all_placed (λ k. m.after ≤ k.after) l rest (omega (arith, less)) r.0, rises-placed l rest r.1)
]

pub rises-by_count : (ls : List Line) → Rises (by_count ls)
rises-by_count [] = rw by_count-nil tt
rises-by_count (l ∷ ls) = rw (by_count-cons l ls) (rises-placed l (by_count ls) (rises-by_count ls))

-- the count occurs among them
at_least-found : (n : ℕ) (x : Line) (ls : List Line) (w : Line) (ws : List Line) → AreAtLeast n ls → filter (same_count x) ls ≡ w ∷ ws → n ≤ x.after
at_least-found n x [] w ws h e = cc
at_least-found n x (l ∷ ls) w ws h e =
    elim (cases_Bool (same_count x l)) [
      | inl with ↦ omega (arith, h.0, same_count-true x l with)
      | inr without ↦ at_least-found n x ls w ws h.1 (sym (filter-dropped (same_count x) l ls without) ∙ e)
    ]

same_from_counts : (ys zs : List Line) → Rises ys → Rises zs → ((x : Line) → filter (same_count x) ys ≡ filter (same_count x) zs) → ys ≡ zs
same_from_counts [] [] left right same = refl
same_from_counts [] (z ∷ zs) left right same =
    let clash = same z ∙ filter-kept (same_count z) z zs (same_count_from z z refl) in cc
same_from_counts (y ∷ ys) [] left right same =
    let clash = sym (same y) ∙ filter-kept (same_count y) y ys (same_count_from y y refl) in cc
same_from_counts (y ∷ ys) (z ∷ zs) left right same =
    let at_y = filter-kept (same_count y) y ys (same_count_from y y refl) in
    let at_z = filter-kept (same_count z) z zs (same_count_from z z refl) in
    let up = at_least-found z.after y (z ∷ zs) y _ (omega arith, right.0) (sym (same y) ∙ at_y) in
    let down = at_least-found y.after z (y ∷ ys) z _ (omega arith, left.0) (same z ∙ at_z) in
    let heads = sym at_y ∙ same y ∙ filter-kept (same_count y) z zs (same_count_from y z (omega arith)) in
    let head : y ≡ z = cc in
    let tails : (x : Line) → filter (same_count x) ys ≡ filter (same_count x) zs =
    λ x. elim (cases_Bool (same_count x y)) [
      | inl with ↦
          let both = sym (filter-kept (same_count x) y ys with) ∙ same x ∙ filter-kept (same_count x) z zs (ap (same_count x) (sym head) ∙ with) in cc
      | inr without ↦
          sym (filter-dropped (same_count x) y ys without) ∙ same x ∙ filter-dropped (same_count x) z zs (ap (same_count x) (sym head) ∙ without)
    ] in
    ap (λ w. w ∷ ys) head ∙ ap (λ l. z ∷ l) (same_from_counts ys zs left.1 right.1 tails)

pub by_count-sorted : (xs ys : List Line) → IsNonDecreasingBy count_of ys → IsStableByKey count_of nat_cmp xs ys → ys ≡ by_count xs
by_count-sorted xs ys sorted stable =
    same_from_counts ys (by_count xs) (rises-sorted ys sorted) (rises-by_count xs) (λ x. stable x ∙ sym (filter-by_count x xs))
