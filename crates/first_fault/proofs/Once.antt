-- A first fault is one.
use Rattle.std.proofs.Common.{◌≡◌, ℕ, ◌<◌, Bool, List, sym, ◌∙◌, ap, arith, slice_get}
use Rattle.std.proofs.lemmas.Option.{same_Some}
use Rattle.std.proofs.lemmas.Bool.{cases_lt, true≢false}
use Rattle.std.proofs.Common.{⊎_elim}
use Rattle.first_fault.specs.First.{IsFine, IsFirstFault}

pub fine_no_fault : {E R : Type 0} (breaks : ℕ → E → R → Bool) (number : R → ℕ) (line : E → ℕ) (whole : List E)
    (rule : R) (on : ℕ) → IsFine breaks whole → IsFirstFault breaks number line whole rule on → ⊥
fine_no_fault breaks number line whole rule on f x = true≢false (sym x.broken_here ∙ f.each x.place x.event rule x.at)

not_before : {E R : Type 0} (breaks : ℕ → E → R → Bool) (number : R → ℕ) (line : E → ℕ) (whole : List E)
    (rule other : R) (on at : ℕ) (x : IsFirstFault breaks number line whole rule on)
    (y : IsFirstFault breaks number line whole other at) → x.place < y.place → ⊥
not_before breaks number line whole rule other on at x y low = true≢false (sym x.broken_here ∙ y.first x.place x.event rule low x.at)

-- the same place
pub same_place : {E R : Type 0} (breaks : ℕ → E → R → Bool) (number : R → ℕ) (line : E → ℕ) (whole : List E)
    (rule other : R) (on at : ℕ) (x : IsFirstFault breaks number line whole rule on)
    (y : IsFirstFault breaks number line whole other at) → x.place ≡ y.place
same_place breaks number line whole rule other on at x y =
    ⊎_elim (λ low. absurd (not_before breaks number line whole rule other on at x y low)) (λ high.
    ⊎_elim (λ low. absurd (not_before breaks number line whole other rule at on y x low)) (λ low. omega arith)
    (cases_lt y.place x.place)) (cases_lt x.place y.place)

pub same_event : {E R : Type 0} (breaks : ℕ → E → R → Bool) (number : R → ℕ) (line : E → ℕ) (whole : List E)
    (rule other : R) (on at : ℕ) (x : IsFirstFault breaks number line whole rule on)
    (y : IsFirstFault breaks number line whole other at) → x.event ≡ y.event
same_event breaks number line whole rule other on at x y = same_Some x.event y.event
    (sym x.at ∙ ap (slice_get whole) (same_place breaks number line whole rule other on at x y) ∙ y.at)

pub same_line : {E R : Type 0} (breaks : ℕ → E → R → Bool) (number : R → ℕ) (line : E → ℕ) (whole : List E)
    (rule other : R) (on at : ℕ) → IsFirstFault breaks number line whole rule on
    → IsFirstFault breaks number line whole other at → on ≡ at
same_line breaks number line whole rule other on at x y = x.on_line ∙ ap line (same_event breaks number line whole rule other on at x y) ∙ sym y.on_line

not_lower : {E R : Type 0} (breaks : ℕ → E → R → Bool) (number : R → ℕ) (line : E → ℕ) (whole : List E) (rule other : R)
    (on at : ℕ) → IsFirstFault breaks number line whole rule on → IsFirstFault breaks number line whole other at
    → number rule < number other → ⊥
not_lower breaks number line whole rule other on at x y low =
    true≢false
    (sym x.broken_here ∙ ap (λ k. breaks k x.event rule) (same_place breaks number line whole rule other on at x y)
    ∙ ap (λ e. breaks y.place e rule) (same_event breaks number line whole rule other on at x y)
    ∙ y.lowest rule low)

pub same_number : {E R : Type 0} (breaks : ℕ → E → R → Bool) (number : R → ℕ) (line : E → ℕ) (whole : List E)
    (rule other : R) (on at : ℕ) → IsFirstFault breaks number line whole rule on
    → IsFirstFault breaks number line whole other at → number rule ≡ number other
same_number breaks number line whole rule other on at x y =
    ⊎_elim (λ low. absurd (not_lower breaks number line whole rule other on at x y low)) (λ high.
    ⊎_elim (λ low. absurd (not_lower breaks number line whole other rule at on y x low)) (λ low. omega arith)
    (cases_lt (number other) (number rule))) (cases_lt (number rule) (number other))
