-- The first fault of a text. A text is a list of events, and `breaks place event rule` tells
-- whether the event at a place breaks a rule.
use Rattle.std.specs.Prelude.{◌≡◌, ℕ, ◌+◌, ◌<◌, Bool, true, false, ◌||◌, List, [], ◌∷◌, Option}
use Rattle.std.specs.Prelude.{None, Some, if◌then◌else◌, slice_get, take}

-- Four words for what events say: whether some does, how many do, how much they say in all, and the
-- last that says something.

abbrev pub any : {A : Type 0} → (A → Bool) → List A → Bool
any test [] = false
any test (x ∷ xs) = test x || any test xs

abbrev pub count : {A : Type 0} → (A → Bool) → List A → ℕ
count test [] = 0
count test (x ∷ xs) = (if test x then 1 else 0) + count test xs

abbrev pub total : {A : Type 0} → (A → ℕ) → List A → ℕ
total amount [] = 0
total amount (x ∷ xs) = amount x + total amount xs

abbrev pub or_else : {X : Type 0} → Option X → Option X → Option X
or_else (Some x) other = Some x
or_else None other = other

abbrev pub last_of : {A X : Type 0} → (A → Option X) → List A → Option X
last_of says [] = None
last_of says (x ∷ xs) = or_else (last_of says xs) (says x)

-- no event breaks a rule
pub record IsFine {E R : Type 0} (breaks : ℕ → E → R → Bool) (whole : List E) : Type 0 where
  pub each : (place : ℕ) (e : E) (r : R) → slice_get whole place ≡ Some e → breaks place e r ≡ false

-- the rule is broken on this line; no event before breaks a rule, and the event breaks no rule of a
-- lower number
pub record IsFirstFault {E R : Type 0} (breaks : ℕ → E → R → Bool) (number : R → ℕ) (line : E → ℕ)
    (whole : List E) (rule : R) (on : ℕ) : Type 0 where
  pub place : ℕ
  pub event : E
  pub at : slice_get whole place ≡ Some event
  pub on_line : on ≡ line event
  pub broken_here : breaks place event rule ≡ true
  pub first : (k : ℕ) (e : E) (r : R) → k < place → slice_get whole k ≡ Some e
      → breaks k e r ≡ false
  pub lowest : (r : R) → number r < number rule → breaks place event r ≡ false

-- a rule as a test of an event with what is known, read as a test at a place, where what is known
-- comes of the events before
abbrev pub breaks_at : {E K R : Type 0} → (R → K → E → Bool) → (List E → K) → List E → ℕ → E → R
    → Bool
breaks_at broken known whole place e rule = broken rule (known (take place whole)) e

-- the first of these rules that an event breaks
abbrev pub first_broken : {E K R : Type 0} → (R → K → E → Bool) → List R → K → E → Option R
first_broken broken [] k e = None
first_broken broken (r ∷ rs) k e = if broken r k e then Some r else first_broken broken rs k e
