-- What a text is refused with, as a function: the rule and the line of its first fault.
--
-- A text stands in parts. What is known at a place comes of the parts before, of the whole part and
-- of what stands before in it, and the fault is that of the first part that has one. So it is the
-- least by place in the text, and there by number.
use Rattle.std.specs.Prelude.{◌≡◌, ℕ, ◌<◌, Bool, ◌⊎◌, List, [], ◌∷◌, ◌++◌, Option, None, Some}
use Rattle.std.specs.Prelude.{slice_get, take}
use Rattle.first_fault.specs.First.{or_else, first_broken, IsFine, IsFirstFault, breaks_at}

-- a rule on a line
abbrev pub on_line : {R : Type 0} → ℕ → Option R → Option (R × ℕ)
on_line line None = None
on_line line (Some rule) = Some (rule, line)

module _ {E K R : Type 0} (broken : R → K → E → Bool) (rules : List R) (line : E → ℕ) where
  -- what an event is refused with by what is known there
  abbrev pub told_at : K → E → Option (R × ℕ)
  told_at k e = on_line (line e) (first_broken broken rules k e)

  -- the events from here on, after those before them
  unfoldable pub told_from : (List E → K) → List E → List E → Option (R × ℕ)
  told_from known before [] = None
  told_from known before (e ∷ rest) =
      or_else (told_at (known before) e) (told_from known (before ++ e ∷ []) rest)

  abbrev pub told : (List E → K) → List E → Option (R × ℕ)
  told known whole = told_from known [] whole

  -- the parts from here on, after those before them
  unfoldable pub told_parts_from : (List (List E) → List E → List E → K) → List (List E)
      → List (List E) → Option (R × ℕ)
  told_parts_from known done [] = None
  told_parts_from known done (own ∷ rest) =
      or_else (told (known done own) own) (told_parts_from known (done ++ own ∷ []) rest)

  abbrev pub told_parts : (List (List E) → List E → List E → K) → List (List E) → Option (R × ℕ)
  told_parts known parts = told_parts_from known [] parts

-- the same as relations

module _ {E K R : Type 0} (broken : R → K → E → Bool) (number : R → ℕ) (line : E → ℕ)
    (known : List (List E) → List E → List E → K) (parts : List (List E)) where
  -- what breaks a rule in the part of this number
  abbrev pub breaks_in : ℕ → List E → ℕ → E → R → Bool
  breaks_in part own = breaks_at broken (known (take part parts) own) own

  -- no event of any part breaks a rule
  pub record AreFine : Type 0 where
    pub each : (part : ℕ) (own : List E) → slice_get parts part ≡ Some own
        → IsFine (breaks_in part own) own

  -- this is the first fault of a part, and no part before breaks a rule
  pub record IsFirstOfParts (rule : R) (on : ℕ) : Type 0 where
    pub part : ℕ
    pub own : List E
    pub at : slice_get parts part ≡ Some own
    pub before : (p : ℕ) (x : List E) → p < part → slice_get parts p ≡ Some x
        → IsFine (breaks_in p x) x
    pub first : IsFirstFault (breaks_in part own) number line own rule on

  -- what is told of the text is so
  abbrev pub IsSo : Option (R × ℕ) → Type 0
  IsSo None = AreFine
  IsSo (Some fault) = IsFirstOfParts fault.0 fault.1

-- a list has all rules, in the order of their numbers

abbrev pub Among : {R : Type 0} → R → List R → Type 0
Among q [] = ⊥
Among q (r ∷ rs) = (q ≡ r) ⊎ Among q rs

abbrev pub Above : {R : Type 0} → (R → ℕ) → ℕ → List R → Type 0
Above number n [] = Unit {0}
Above number n (r ∷ rs) = (n < number r) × Above number n rs

abbrev pub Rising : {R : Type 0} → (R → ℕ) → List R → Type 0
Rising number [] = Unit {0}
Rising number (r ∷ rs) = Above number (number r) rs × Rising number rs

pub record HasAll {R : Type 0} (number : R → ℕ) (rs : List R) : Type 0 where
  pub all : (q : R) → Among q rs
  pub rising : Rising number rs
