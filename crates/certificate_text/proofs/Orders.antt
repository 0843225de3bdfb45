-- Facts that rise strictly, with one more at their end.
use Rattle.std.proofs.Common.{◌≡◌, ℕ, zero, suc, ◌+◌, ◌-◌, Bool, true, List, [], ◌∷◌, ◌++◌, length}
use Rattle.std.proofs.Common.{get_or, Some, None, IsTrue, refl, sym, ap, subst, ◌∙◌, arith}
use Rattle.std.proofs.Common.{append_assoc}
use Rattle.std.specs.Prelude.{slice_get}
use Rattle.std.specs.List.{AllByRecursion}
use Rattle.std.specs.List.Sorted.{IsStrictlySortedBy}
use Rattle.std.specs.Ordering.{is_lt}
use Rattle.std.specs.declared.cmp.Ordering.TheVariants.{Less}
use Rattle.std.proofs.lemmas.List.{nil_from_length}
use Rattle.std.proofs.lemmas.Option.{slice_get_within, slice_get-get_or}
use Rattle.plex_num.proofs.Numbers.{is_less}
use Rattle.flow_points.specs.contracts.fact.FactOrd.TheImpl.Laws.{total-law}
use Rattle.flow_points.specs.declared.fact.Fact.{Fact}
use Rattle.flow_points.specs.Orders.{fact_order}

abbrev pub Rise : List Fact → Type 0
Rise facts = IsStrictlySortedBy fact_order facts

all_push : (P : Fact → Type 0) (xs : List Fact) (y : Fact) → AllByRecursion P xs → P y → AllByRecursion P (xs ++ y ∷ [])
all_push P [] y all here = (here, tt)
all_push P (x ∷ xs) y all here = (all.0, all_push P xs y all.1 here)

all_last : (P : Fact → Type 0) (xs : List Fact) (y : Fact) → AllByRecursion P (xs ++ y ∷ []) → P y
all_last P [] y all = all.0
all_last P (x ∷ xs) y all = all_last P xs y all.1

all_front : (P : Fact → Type 0) (xs ys : List Fact) → AllByRecursion P (xs ++ ys) → AllByRecursion P xs
all_front P [] ys all = tt
all_front P (x ∷ xs) ys all = (all.0, all_front P xs ys all.1)

pub rise_nil : Rise []
unfolding IsStrictlySortedBy
rise_nil = tt

-- the front of facts that rise rises
pub rise_front : (xs ys : List Fact) → Rise (xs ++ ys) → Rise xs
unfolding IsStrictlySortedBy
rise_front [] ys rise = tt
rise_front (x ∷ xs) ys rise = (all_front (λ y. fact_order x y ≡ Less) xs ys rise.0, rise_front xs ys rise.1)

rise_more : (front : List Fact) (last f : Fact) → Rise (front ++ last ∷ []) → fact_order last f ≡ Less → Rise ((front ++ last ∷ []) ++ f ∷ [])
unfolding IsStrictlySortedBy
rise_more [] last f rise less = ((less, tt), (tt, tt))
rise_more (x ∷ front) last f rise less =
    let above : fact_order x last ≡ Less = all_last (λ y. fact_order x y ≡ Less) front last rise.0 in
    (all_push (λ y. fact_order x y ≡ Less) (front ++ last ∷ []) f rise.0 (total-law.trans x last f above less), rise_more front last f rise.1 less)

rise_last : (front : List Fact) (last f : Fact) → Rise ((front ++ last ∷ []) ++ f ∷ []) → fact_order last f ≡ Less
unfolding IsStrictlySortedBy
rise_last [] last f rise = rise.0.0
rise_last (x ∷ front) last f rise = rise_last front last f rise.1

-- facts with a last one
split_last : (facts : List Fact) (i : ℕ) (last : Fact) → slice_get facts i ≡ Some last → i + 1 ≡ length facts
    → (front : List Fact) × (facts ≡ front ++ last ∷ [])
split_last [] i last e n = cc
split_last (x ∷ xs) zero last e n =
    let same : x ≡ last = cc in
    let none : xs ≡ [] = nil_from_length xs (omega arith) in
    ([], ap (λ ys. x ∷ ys) none ∙ ap (λ y. y ∷ []) same)
split_last (x ∷ xs) (suc i) last e n =
    let more = split_last xs i last e (omega arith) in
    (x ∷ more.0, ap (λ ys. x ∷ ys) more.1)

none_left : (facts : List Fact) (i : ℕ) → None ≡ slice_get facts i → i ≡ length facts - 1 → facts ≡ []
none_left [] i e n = refl
none_left (x ∷ xs) i e n =
    let some : slice_get (x ∷ xs) i ≡ Some (get_or (x ∷ xs) i x) = slice_get-get_or (x ∷ xs) i x (omega arith) in
    let no : None ≡ Some (get_or (x ∷ xs) i x) = e ∙ some in
    cc

abbrev pub TellsFact : List Fact → Fact → Bool → Type 0
TellsFact facts f r = (IsTrue r → Rise (facts ++ f ∷ [])) × (Rise (facts ++ f ∷ []) → IsTrue r)

pub rises_behind : (facts : List Fact) (last f : Fact) (r : Bool) → Rise facts
    → Some last ≡ slice_get facts (length facts - 1) → r ≡ is_lt (fact_order last f) → TellsFact facts f r
rises_behind facts last f r rise there is =
    let within = slice_get_within facts (length facts - 1) last (sym there) in
    let split = split_last facts (length facts - 1) last (sym there) (omega (arith, within)) in
    let so = subst Rise split.1 rise in (
      (λ yes. subst (λ fs. Rise (fs ++ f ∷ [])) (sym split.1) (rise_more split.0 last f so (is_less (fact_order last f) (sym is ∙ yes)))),
      (λ more. is ∙ ap is_lt (rise_last split.0 last f (subst (λ fs. Rise (fs ++ f ∷ [])) split.1 more))),
    )

pub rises_first : (facts : List Fact) (f : Fact) → None ≡ slice_get facts (length facts - 1) → TellsFact facts f true
unfolding IsStrictlySortedBy
rises_first facts f none =
    let empty = none_left facts (length facts - 1) none refl in
    ((λ yes. subst (λ fs. Rise (fs ++ f ∷ [])) (sym empty) (tt, tt)), (λ more. refl))

-- one fact among those that rise does not fall
pub rise_up_to : (facts others rest : List Fact) (f : Fact) → others ≡ facts ++ f ∷ rest → Rise others → Rise (facts ++ f ∷ [])
rise_up_to facts others rest f so rise = rise_front (facts ++ f ∷ []) rest (subst Rise (so ∙ sym (append_assoc facts (f ∷ []) rest)) rise)
