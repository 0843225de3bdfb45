-- The first of several conflicts.
use Rattle.std.proofs.Common.{◌≡◌, ◌⊎◌, inl, inr, ⊎_elim, ℕ, ◌+◌, ◌<◌, List, [], ◌∷◌, ◌++◌, length}
use Rattle.std.proofs.Common.{take, get_or, Option, Some, None, refl, sym, ap, ◌∙◌, subst}
use Rattle.std.proofs.lemmas.List.{take_more}
use Rattle.std.proofs.lemmas.List.Elements.{Contains-append_left, Contains-push}
use Rattle.std.proofs.lemmas.List.Elements.{Contains-push_cases}
use Rattle.std.proofs.lemmas.Option.{none-some, same_Some}
use Rattle.plex_num.specs.declared.level.Level.{Level}
use Rattle.plex_num.proofs.Members.{none_in}
use Rattle.entry_summary.specs.declared.summary.Access.{Access}
use Rattle.pair_tests.specs.declared.pair.Conflict.{Conflict}
use Rattle.pair_tests.specs.Clashes.{clash_of, above_of, ClashesWith, Clashes, ClashesAbove}
use Rattle.pair_tests.specs.Clashes.{IsLeastConflict, IsSooner}
use Rattle.pair_tests.specs.Orders.{Precedes}
use Rattle.pair_tests.proofs.Preceding.{none_before_itself, precedes_trans, not_before}

pub least_none : (P : Conflict → Type 0) → ((c : Conflict) → P c → ⊥) → IsLeastConflict P None
unfolding IsLeastConflict
least_none P none = none

-- of the conflict alone, or of none
pub least_one : (o : Option Conflict) → IsLeastConflict (λ c. o ≡ Some c) o
unfolding IsLeastConflict
least_one None = λ c e. none-some c e
least_one (Some b) = (refl, λ d e before. none_before_itself b (subst (λ x. Precedes x b) (sym (same_Some b d e)) before))

-- of the same conflicts
pub least_same : (P R : Conflict → Type 0) → ((c : Conflict) → P c → R c) → ((c : Conflict) → R c → P c)
    → (result : Option Conflict) → IsLeastConflict P result → IsLeastConflict R result
unfolding IsLeastConflict
least_same P R to from None least = λ c h. least c (from c h)
least_same P R to from (Some b) least = (to b least.0, λ c h. least.1 c (from c h))

pub least_joined : (P Q R : Conflict → Type 0) → ((c : Conflict) → P c → R c) → ((c : Conflict) → Q c → R c) → ((c : Conflict) → R c → P c ⊎ Q c)
    → (one other result : Option Conflict) → IsLeastConflict P one → IsLeastConflict Q other → IsSooner one other result → IsLeastConflict R result
unfolding IsLeastConflict
least_joined P Q R from_p from_q cases None None result p q is =
    subst (IsLeastConflict R) (sym is) (λ c h. ⊎_elim (λ k. p c k) (λ k. q c k) (cases c h))
least_joined P Q R from_p from_q cases None (Some d) result p q is =
    subst (IsLeastConflict R) (sym is) (from_q d q.0, λ c h before. ⊎_elim (λ k. absurd (p c k)) (λ k. q.1 c k before) (cases c h))
least_joined P Q R from_p from_q cases (Some b) None result p q is =
    subst (IsLeastConflict R) (sym is) (from_p b p.0, λ c h before. ⊎_elim (λ k. p.1 c k before) (λ k. absurd (q c k)) (cases c h))
least_joined P Q R from_p from_q cases (Some b) (Some d) result p q (inl is) =
    subst (IsLeastConflict R) (sym is.0) (
      from_q d q.0,
      λ c h before. ⊎_elim
          (λ k. p.1 c k (precedes_trans c d b before is.1)) (λ k. q.1 c k before) (cases c h),
    )
least_joined P Q R from_p from_q cases (Some b) (Some d) result p q (inr is) =
    subst (IsLeastConflict R) (sym is.0) (from_p b p.0, λ c h before. ⊎_elim (λ k. p.1 c k before) (λ k. not_before b c d is.1 (q.1 c k) before) (cases c h))

-- of one access with others

pub with_none : (one : Access) → IsLeastConflict (ClashesWith one []) None
with_none one = least_none (ClashesWith one []) (λ c h. none_in h.other h.there)

with_pushed : (one : Access) (done : List Access) (new : Access) (least result : Option Conflict)
    → IsLeastConflict (ClashesWith one done) least → IsSooner least (clash_of one new) result → IsLeastConflict (ClashesWith one (done ++ new ∷ [])) result
with_pushed one done new least result before is =
    least_joined (ClashesWith one done) (λ c. clash_of one new ≡ Some c) (ClashesWith one (done ++ new ∷ []))
    (λ c h. record { other = h.other; there = Contains-append_left done (new ∷ []) h.other h.there; clash = h.clash })
    (λ c e. record { other = new; there = Contains-push done new; clash = e })
    (λ c h. ⊎_elim
    (λ at. inl (record { other = h.other; there = at; clash = h.clash }))
    (λ same. inr (ap (clash_of one) same ∙ h.clash))
    (Contains-push_cases done new h.other h.there))
    least (clash_of one new) result before (least_one (clash_of one new)) is

pub with_more : (one : Access) (others : List Access) (i : ℕ) (d : Access) (least result : Option Conflict) → i < length others
    → IsLeastConflict (ClashesWith one (take i others)) least → IsSooner least (clash_of one (get_or others i d)) result
    → IsLeastConflict (ClashesWith one (take (i + 1) others)) result
with_more one others i d least result lt before is =
    subst (λ l. IsLeastConflict (ClashesWith one l) result) (sym (take_more others i d lt))
    (with_pushed one (take i others) (get_or others i d) least result before is)

-- of several accesses with others

pub of_none : (others : List Access) → IsLeastConflict (Clashes [] others) None
of_none others = least_none (Clashes [] others) (λ c h. none_in h.one h.there)

of_pushed : (done others : List Access) (new : Access) (least found result : Option Conflict)
    → IsLeastConflict (Clashes done others) least → IsLeastConflict (ClashesWith new others) found → IsSooner least found result
    → IsLeastConflict (Clashes (done ++ new ∷ []) others) result
of_pushed done others new least found result before now is =
    least_joined (Clashes done others) (ClashesWith new others) (Clashes (done ++ new ∷ []) others)
    (λ c h. record { one = h.one; there = Contains-append_left done (new ∷ []) h.one h.there; clash = h.clash })
    (λ c h. record { one = new; there = Contains-push done new; clash = h })
    (λ c h. ⊎_elim
    (λ at. inl (record { one = h.one; there = at; clash = h.clash }))
    (λ same. inr (subst (λ a. ClashesWith a others c) (sym same) h.clash))
    (Contains-push_cases done new h.one h.there))
    least found result before now is

pub of_more : (ones others : List Access) (i : ℕ) (d : Access) (least found result : Option Conflict) → i < length ones
    → IsLeastConflict (Clashes (take i ones) others) least → IsLeastConflict (ClashesWith (get_or ones i d) others) found → IsSooner least found result
    → IsLeastConflict (Clashes (take (i + 1) ones) others) result
of_more ones others i d least found result lt before now is =
    subst (λ l. IsLeastConflict (Clashes l others) result) (sym (take_more ones i d lt))
    (of_pushed (take i ones) others (get_or ones i d) least found result before now is)

-- of levels

pub above_none : (later : Level) → IsLeastConflict (ClashesAbove [] later) None
above_none later = least_none (ClashesAbove [] later) (λ c h. none_in h.level h.there)

above_pushed : (done : List Level) (later new : Level) (least result : Option Conflict)
    → IsLeastConflict (ClashesAbove done later) least → IsSooner least (above_of new later) result
    → IsLeastConflict (ClashesAbove (done ++ new ∷ []) later) result
above_pushed done later new least result before is =
    least_joined (ClashesAbove done later) (λ c. above_of new later ≡ Some c) (ClashesAbove (done ++ new ∷ []) later)
    (λ c h. record { level = h.level; there = Contains-append_left done (new ∷ []) h.level h.there; clash = h.clash })
    (λ c e. record { level = new; there = Contains-push done new; clash = e })
    (λ c h. ⊎_elim
    (λ at. inl (record { level = h.level; there = at; clash = h.clash }))
    (λ same. inr (ap (λ l. above_of l later) same ∙ h.clash))
    (Contains-push_cases done new h.level h.there))
    least (above_of new later) result before (least_one (above_of new later)) is

pub above_more : (levels : List Level) (later : Level) (i : ℕ) (d : Level) (least result : Option Conflict) → i < length levels
    → IsLeastConflict (ClashesAbove (take i levels) later) least → IsSooner least (above_of (get_or levels i d) later) result
    → IsLeastConflict (ClashesAbove (take (i + 1) levels) later) result
above_more levels later i d least result lt before is =
    subst (λ l. IsLeastConflict (ClashesAbove l later) result) (sym (take_more levels i d lt))
    (above_pushed (take i levels) later (get_or levels i d) least result before is)
