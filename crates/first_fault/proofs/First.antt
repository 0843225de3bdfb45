-- What a table of rules answers, and how a pass goes on.
use Rattle.std.proofs.Common.{⊎_elim, ◌≡◌, ℕ, ◌+◌, ◌<◌, ◌≤◌, Bool, true, false, ◌||◌, ◌⊎◌, inl, inr}
use Rattle.std.proofs.Common.{List, [], ◌∷◌, ◌++◌, length, take, Some, None, Option, refl, sym, ◌∙◌}
use Rattle.std.proofs.Common.{ap, arith, slice_get, get_or}
use Rattle.std.specs.Prelude.{if◌then◌else◌}
use Rattle.std.proofs.lemmas.List.{take_more}
use Rattle.std.proofs.lemmas.Option.{slice_get-get_or, slice_get_within, same_Some}
use Rattle.std.proofs.lemmas.Bool.{cases_lt}
use Rattle.first_fault.specs.Told.{Among, Above, Rising, HasAll}
use Rattle.first_fault.specs.First.{any, count, total, or_else, last_of, IsFine, IsFirstFault}
use Rattle.first_fault.specs.First.{breaks_at, first_broken}

-- the events before the next place
pub more_events : {E : Type 0} (whole : List E) (i : ℕ) (e : E) → i < length whole → e ≡ get_or whole i e → take (i + 1) whole ≡ take i whole ++ e ∷ []
more_events whole i e inside is = take_more whole i e inside ∙ ap (λ x. take i whole ++ x ∷ []) (sym is)

pub any_push : {A : Type 0} (test : A → Bool) (xs : List A) (x : A) → any test (xs ++ x ∷ []) ≡ (any test xs || test x)
any_push test [] x = grind arith
any_push test (y ∷ xs) x = rw (any_push test xs x) (grind arith)

pub count_push : {A : Type 0} (test : A → Bool) (xs : List A) (x : A) → count test (xs ++ x ∷ []) ≡ count test xs + (if test x then 1 else 0)
count_push test [] x = grind arith
count_push test (y ∷ xs) x = rw (count_push test xs x) (omega arith)

pub total_push : {A : Type 0} (amount : A → ℕ) (xs : List A) (x : A) → total amount (xs ++ x ∷ []) ≡ total amount xs + amount x
total_push amount [] x = omega arith
total_push amount (y ∷ xs) x = rw (total_push amount xs x) (omega arith)

pub last_push : {A X : Type 0} (says : A → Option X) (xs : List A) (x : A) → last_of says (xs ++ x ∷ []) ≡ or_else (says x) (last_of says xs)
last_push says [] x = last_none (says x)
  where
    last_none : {X : Type 0} (o : Option X) → or_else None o ≡ or_else o None
    last_none (Some y) = refl
    last_none None = refl
last_push says (y ∷ xs) x = rw (last_push says xs x) (regroup (says x) (last_of says xs) (says y))
  where
    regroup : {X : Type 0} (a b c : Option X) → or_else (or_else a b) c ≡ or_else a (or_else b c)
    regroup (Some u) b c = refl
    regroup None b c = refl

pub above_among : {R : Type 0} (number : R → ℕ) (n : ℕ) (rs : List R) (q : R) → Above number n rs → Among q rs → n < number q
above_among number n [] q a m = absurd m
above_among number n (r ∷ rs) q a (inl e) = rw e a.0
above_among number n (r ∷ rs) q a (inr m) = above_among number n rs q a.1 m

module _ {E K R : Type 0} (broken : R → K → E → Bool) (number : R → ℕ) where
  pub none_broken : (rs : List R) (k : K) (e : E) → first_broken broken rs k e ≡ None → (q : R) → Among q rs → broken q k e ≡ false
  none_broken [] k e h q m = absurd m
  none_broken (r ∷ rs) k e h q m = here (broken r k e) refl h m (none_broken rs k e)
    where
      here : (b : Bool) → broken r k e ≡ b → (if b then Some r else first_broken broken rs k e) ≡ None
          → (q ≡ r) ⊎ Among q rs → (first_broken broken rs k e ≡ None → (p : R) → Among p rs → broken p k e ≡ false)
          → broken q k e ≡ false
      here true is h m below = cc
      here false is h (inl same) below = rw same is
      here false is h (inr m) below = below h q m

  pub record FirstOf (rs : List R) (k : K) (e : E) (rule : R) : Type 0 where
    pub broken_here : broken rule k e ≡ true
    pub lowest : (q : R) → Among q rs → number q < number rule → broken q k e ≡ false
    pub member : Among rule rs

  pub some_broken : (rs : List R) (k : K) (e : E) (rule : R) → Rising number rs → first_broken broken rs k e ≡ Some rule → FirstOf rs k e rule
  some_broken [] k e rule up h = cc
  some_broken (r ∷ rs) k e rule up h = here (broken r k e) refl h (some_broken rs k e rule up.1)
    where
      here : (b : Bool) → broken r k e ≡ b → (if b then Some r else first_broken broken rs k e) ≡ Some rule
          → (first_broken broken rs k e ≡ Some rule → FirstOf rs k e rule) → FirstOf (r ∷ rs) k e rule
      here true is h below =
          let same : r ≡ rule = cc in
          record {
            broken_here = rw (← same) is;
            lowest = λ q m low. elim m [
              | inl e ↦ absurd (omega (arith, ap number e, ap number same))
              | inr m ↦ absurd
                  (omega (arith, above_among number (number r) rs q up.0 m, ap number same))
            ];
            member = inl (sym same);
          }
      here false is h below =
          let f = below h in
          record {
            broken_here = f.broken_here;
            lowest = λ q m low. elim m [ inl e ↦ rw e is | inr m ↦ f.lowest q m low ];
            member = inr f.member;
          }

  module _ (line : E → ℕ) (known : List E → K) (whole : List E) where
    abbrev pub breaks : ℕ → E → R → Bool
    breaks = breaks_at broken known whole

    -- no event below a place breaks a rule
    pub record FineBelow (place : ℕ) : Type 0 where
      pub each : (k : ℕ) (e : E) (r : R) → k < place → slice_get whole k ≡ Some e → breaks k e r ≡ false

    pub fine_none : FineBelow 0
    fine_none = record { each = λ k e r low at. absurd (omega arith) }

    pub fine_more : (rs : List R) (k : K) (i : ℕ) (e : E) → HasAll number rs → i < length whole → e ≡ get_or whole i e
        → k ≡ known (take i whole) → None ≡ first_broken broken rs k e → FineBelow i → FineBelow (i + 1)
    fine_more rs k i e a inside is t h f = record {
      each = λ j x r low at. ⊎_elim (λ below. f.each j x r below at) (λ here. last j x r here low at) (cases_lt j i);
    }
      where
        last : (j : ℕ) (x : E) (r : R) → i ≤ j → j < i + 1 → slice_get whole j ≡ Some x → breaks j x r ≡ false
        last j x r a' b at =
            let same : j ≡ i = omega arith in
            let x_is : x ≡ e = same_Some x e (sym at ∙ ap (slice_get whole) same ∙ slice_get-get_or whole i e inside ∙ ap Some (sym is)) in
            rw (x_is, same, ← t) (none_broken rs k e (sym h) r (a.all r))

    pub fine_all : (i : ℕ) → length whole ≤ i → FineBelow i → IsFine breaks whole
    fine_all i past f = record { each = λ k e r at. let inside = slice_get_within whole k e at in f.each k e r (omega arith) at }

    pub first_fault : (rs : List R) (k : K) (i : ℕ) (e : E) (rule : R) → HasAll number rs → i < length whole
        → e ≡ get_or whole i e → k ≡ known (take i whole) → Some rule ≡ first_broken broken rs k e → FineBelow i
        → IsFirstFault breaks number line whole rule (line e)
    first_fault rs k i e rule a inside is t h f =
        let found : FirstOf rs k e rule = some_broken rs k e rule a.rising (sym h) in
        record {
          place = i;
          event = e;
          at = slice_get-get_or whole i e inside ∙ ap Some (sym is);
          on_line = refl;
          broken_here = rw (← t) found.broken_here;
          first = f.each;
          lowest = λ r low. rw (← t) (found.lowest r (a.all r) low);
        }
