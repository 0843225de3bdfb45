-- A row of numbers in two bytes each, or in four: what it tells, and what it becomes where a number
-- is put into it.
use Rattle.std.proofs.Common.{◌≡◌, ℕ, ◌<◌, ◌≤◌, List, [], ◌∷◌, length, get_or, set, replicate, refl}
use Rattle.std.proofs.Common.{sym, subst, ap, ◌∙◌, arith, length-set}
use Rattle.std.proofs.lemmas.List.{get_or_default}
use Rattle.fact_rows.specs.Narrow.{told}

pub told_narrow : (narrow wide : List ℕ) → wide ≡ [] → told narrow wide ≡ narrow
told_narrow narrow wide none = ap (told narrow) none

pub told_wide : (narrow wide : List ℕ) → 0 < length wide → told narrow wide ≡ wide
told_wide narrow [] lt = absurd (omega (arith, lt))
told_wide narrow (n ∷ ns) lt = refl

-- a place past the numbers of four bytes is one of those of two
pub told_past : (narrow wide : List ℕ) (i : ℕ) → length wide ≤ i → i < length (told narrow wide) → told narrow wide ≡ narrow
told_past narrow [] i past lt = refl
told_past narrow (n ∷ ns) i past lt = absurd (omega (arith, past, lt))

pub narrow_place : (narrow wide : List ℕ) (i : ℕ) → length wide ≤ i → i < length (told narrow wide) → i < length narrow
narrow_place narrow wide i past lt = subst (λ l. i < length l) (told_past narrow wide i past lt) lt

pub narrow_read : (narrow wide : List ℕ) (i n : ℕ) → length wide ≤ i → i < length (told narrow wide) → n ≡ get_or narrow i n → n ≡ get_or (told narrow wide) i 0
narrow_read narrow wide i n past lt is =
    is ∙ get_or_default narrow i n 0 (narrow_place narrow wide i past lt) ∙ ap (λ l. get_or l i 0) (sym (told_past narrow wide i past lt))

pub wide_read : (narrow wide : List ℕ) (i n : ℕ) → i < length wide → n ≡ get_or wide i n → n ≡ get_or (told narrow wide) i 0
wide_read narrow wide i n lt is =
    is ∙ get_or_default wide i n 0 lt ∙ ap (λ l. get_or l i 0) (sym (told_wide narrow wide (omega arith)))

-- ---- a number is put

pub narrow_put : (narrow wide : List ℕ) (i n : ℕ) → wide ≡ [] → told (set narrow i n) wide ≡ set (told narrow wide) i n
narrow_put narrow wide i n none = told_narrow (set narrow i n) wide none ∙ ap (λ l. set l i n) (sym (told_narrow narrow wide none))

pub wide_put : (narrow wide new : List ℕ) (i n : ℕ) → new ≡ told narrow wide → i < length (told narrow wide)
    → told narrow (set new i n) ≡ set (told narrow wide) i n
wide_put narrow wide new i n is lt =
    told_wide narrow (set new i n) (let long = length-set new i n in omega (arith, long, lt, ap length is)) ∙ ap (λ l. set l i n) is

-- ---- all numbers are 0

pub told_zeros : (narrow wide zeros wide_zeros : List ℕ) → zeros ≡ replicate (length narrow) 0
    → wide_zeros ≡ replicate (length wide) 0 → told zeros wide_zeros ≡ replicate (length (told narrow wide)) 0
told_zeros narrow [] zeros wide_zeros z w = ap (told zeros) w ∙ z
told_zeros narrow (n ∷ ns) zeros wide_zeros z w = ap (told zeros) w
