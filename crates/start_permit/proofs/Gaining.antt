-- The words that spans gain, one span after the other.
use Rattle.std.proofs.Common.{◌≡◌, ◌⊎◌, inl, inr, ⊎_elim, ℕ, suc, ◌+◌, ◌-◌, ◌*◌, ◌^◌, ◌<◌, ◌≤◌}
use Rattle.std.proofs.Common.{Bool, true, false, ◌||◌, List, [], ◌∷◌, ◌++◌, length, take, get_or}
use Rattle.std.proofs.Common.{refl, sym, ap, ◌∙◌, subst, arith, suc-mul}
use Rattle.std.specs.Prelude.{◌↔◌, IsTrue}
use Rattle.std.specs.List.{Contains}
use Rattle.std.proofs.Math.Nat.{add-mul}
use Rattle.std.proofs.lemmas.Bool.{false≢true}
use Rattle.std.proofs.lemmas.Nat.{mul-le}
use Rattle.std.proofs.lemmas.List.{take_all, take_more}
use Rattle.std.proofs.lemmas.List.Elements.{Contains-append_left, Contains-push}
use Rattle.std.proofs.lemmas.List.Elements.{Contains-push_cases}
use Rattle.std.proofs.lemmas.List.Folds.{list_any-append}
use Rattle.plex_num.proofs.Members.{none_in}
use Rattle.machine_code.specs.declared.permit.Span.{Span}
use Rattle.machine_code.specs.Permits.{spans}
use Rattle.machine_code.proofs.Spanned.{spans_in, spans_out}
use Rattle.store_layout.specs.declared.row.FileRow.{FileRow}
use Rattle.start_permit.specs.declared.runs.Run.{Run}
use Rattle.start_permit.specs.Granted.{OneOf}
use Rattle.start_permit.specs.Recorded.{Gains, InRow, InRun, IsBelow, RowFits, spanned}

-- spans

either : (a b : Bool) → (a || (b || false)) ≡ true → (a ≡ true) ⊎ (b ≡ true)
either true b h = inl refl
either false true h = inr refl
either false false h = cc

both : (a b : Bool) → (a ≡ true) ⊎ (b ≡ true) → (a || (b || false)) ≡ true
both true b h = refl
both false true h = refl
both false false (inl h) = cc
both false false (inr h) = cc

has : (old new : List Span) (s : Span) (w : ℕ) → new ≡ old ++ s ∷ [] → spanned new w ≡ (spanned old w || (spans s w || false))
has old new s w is = ap (λ l. spanned l w) is ∙ list_any-append (λ (t : Span). spans t w) old (s ∷ [])

-- one span more
pub push_gains : (G : ℕ → Type 0) (old new : List Span) (s : Span) → new ≡ old ++ s ∷ []
    → ((w : ℕ) → spans s w ≡ true → G w) → ((w : ℕ) → G w → spans s w ≡ true) → Gains G old new
push_gains G old new s is there back = record {
  each = λ w h. ⊎_elim (λ was. inl was) (λ now. inr (there w now)) (either (spanned old w) (spans s w) (sym (has old new s w is) ∙ h));
  back = λ w h. has old new s w is ∙ both (spanned old w) (spans s w) (⊎_elim (λ was. inl was) (λ g. inr (back w g)) h);
}

pub none_gained : (G : ℕ → Type 0) (old : List Span) → ((w : ℕ) → G w → ⊥) → Gains G old old
none_gained G old none = record { each = λ w h. inl h; back = λ w h. ⊎_elim (λ was. was) (λ g. absurd (none w g)) h }

pub gains_as : (G H : ℕ → Type 0) (old new : List Span) → ((w : ℕ) → G w → H w) → ((w : ℕ) → H w → G w) → Gains G old new → Gains H old new
gains_as G H old new there back g = record {
  each = λ w h. ⊎_elim (λ was. inl was) (λ k. inr (there w k)) (g.each w h);
  back = λ w h. g.back w (⊎_elim (λ was. inl was) (λ k. inr (back w k)) h);
}

-- item by item

pub go_begin : {X : Type 0} (G : X → ℕ → Type 0) (old : List Span) → Gains (OneOf G []) old old
go_begin G old = none_gained (OneOf G []) old (λ w o. none_in o.item o.there)

pub go_new : {X : Type 0} (G : X → ℕ → Type 0) (now : List Span) → now ≡ [] → Gains (OneOf G []) [] now
go_new G now none = subst (λ l. Gains (OneOf G []) l now) none (go_begin G now)

pub go_more : {X : Type 0} (G : X → ℕ → Type 0) (xs : List X) (i : ℕ) (d : X) (old now new : List Span) → i < length xs
    → Gains (G (get_or xs i d)) now new → Gains (OneOf G (take i xs)) old now
    → Gains (OneOf G (take (i + 1) xs)) old new
go_more {X} G xs i d old now new lt h g = record {
  each = λ w s. ⊎_elim (λ now. ⊎_elim (λ was. inl was)
      (λ o. inr (record { item = o.item; there = earlier o.item o.there; gives = o.gives })) (g.each w now))
      (λ k. inr (record { item = get_or xs i d; there = last; gives = k })) (h.each w s);
  back = λ w s. ⊎_elim (λ was. h.back w (inl (g.back w (inl was))))
      (λ o. ⊎_elim (λ c. h.back w (inl (g.back w (inr (record { item = o.item; there = c; gives = o.gives })))))
      (λ same. h.back w (inr (subst (λ y. G y w) (sym same) o.gives))) (split o.item o.there)) s;
}
  where
    longer : take (i + 1) xs ≡ take i xs ++ get_or xs i d ∷ []
    longer = take_more xs i d lt

    earlier : (y : X) → Contains (take i xs) y → Contains (take (i + 1) xs) y
    earlier y c = subst (λ l. Contains l y) (sym longer) (Contains-append_left (take i xs) (get_or xs i d ∷ []) y c)

    last : Contains (take (i + 1) xs) (get_or xs i d)
    last = subst (λ l. Contains l (get_or xs i d)) (sym longer) (Contains-push (take i xs) (get_or xs i d))

    split : (y : X) → Contains (take (i + 1) xs) y → Contains (take i xs) y ⊎ (get_or xs i d ≡ y)
    split y c = Contains-push_cases (take i xs) (get_or xs i d) y (subst (λ l. Contains l y) longer c)

pub go_end : {X : Type 0} (G : X → ℕ → Type 0) (xs : List X) (i : ℕ) (old now : List Span) → length xs ≤ i
    → Gains (OneOf G (take i xs)) old now → Gains (OneOf G xs) old now
go_end G xs i old now past g = subst (λ l. Gains (OneOf G l) old now) (take_all i xs past) g

-- from no span on, the words are those of the items
pub all_words : {X : Type 0} (G : X → ℕ → Type 0) (xs : List X) (now : List Span) → Gains (OneOf G xs) [] now → (w : ℕ) → IsTrue (spanned now w) ↔ OneOf G xs w
all_words G xs now g w = (λ h. ⊎_elim (λ was. absurd (false≢true was)) (λ o. o) (g.each w h), λ o. g.back w (inr o))

-- the records of a run

pub no_run : (row : FileRow) (place : ℕ) (run : Run) (old : List Span) → run.count ≡ 0 → Gains (InRow row place run) old old
no_run row place run old none = none_gained (InRow row place run) old (λ w r. (let low = r.inside.0 in let high = r.inside.1 in omega (arith, low, high, none)))

first_in : (run : Run) → 0 < run.count → InRun run run.first
first_in run some = (omega arith, omega (arith, some))

pub run_fits : (row : FileRow) (place : ℕ) (run : Run) → 0 < run.count → RowFits row place → IsBelow row.size run
    → row.first + run.first * row.stride + place < 2 ^ 32
run_fits row place run some fits below =
    let lt = below.below run.first (first_in run some) in
    let next : suc run.first * row.stride ≡ run.first * row.stride + row.stride = suc-mul run.first row.stride in
    let many : suc run.first * row.stride ≤ row.size * row.stride = mul-le (suc run.first) row.stride row.size row.stride (omega (arith, lt)) (omega arith) in
    let within = fits.within in
    let few = fits.few in
    omega (arith, next, many, within, few)

module _ (row : FileRow) (place : ℕ) (run : Run) where
  abbrev pub span : Span
  span = record { first = row.first + run.first * row.stride + place; count = run.count; stride = row.stride }

  span_in : (w : ℕ) → spans span w ≡ true → InRow row place run w
  span_in w h =
      let s = spans_out span w h in
      let i : ℕ = s.0 in
      let lt : i < run.count = s.1 in
      let at : row.first + run.first * row.stride + place + i * row.stride ≡ w = s.2 in
      let parts : (run.first + i) * row.stride ≡ run.first * row.stride + i * row.stride = add-mul run.first i row.stride in
      record { number = run.first + i; inside = (omega arith, omega (arith, lt)); is = omega (arith, at, parts) }

  span_back : (w : ℕ) → InRow row place run w → spans span w ≡ true
  span_back w r =
      let low = r.inside.0 in
      let high = r.inside.1 in
      let i : ℕ = r.number - run.first in
      let sum : r.number ≡ run.first + i = omega (arith, low) in
      let parts : r.number * row.stride ≡ run.first * row.stride + i * row.stride = ap (λ n. n * row.stride) sum ∙ add-mul run.first i row.stride in
      let is = r.is in
      let at : row.first + run.first * row.stride + place + i * row.stride ≡ w = omega (arith, parts, is) in
      subst (λ v. spans span v ≡ true) at (spans_in span i (omega (arith, low, high)))

  pub run_gained : (old new : List Span) (s : Span) → s ≡ span → new ≡ old ++ s ∷ [] → Gains (InRow row place run) old new
  run_gained old new s same is = push_gains (InRow row place run) old new span (is ∙ ap (λ t. old ++ t ∷ []) same) span_in span_back
