-- Marks, read and set.
use Rattle.std.proofs.Common.{◌≡◌, ℕ, zero, suc, ◌+◌, ◌<◌, Bool, true, false, nat_eq, if◌then◌else◌}
use Rattle.std.proofs.Common.{List, [], ◌∷◌, ◌++◌, length, map, take, Option, Some, None, slice_get}
use Rattle.std.proofs.Common.{slice_set, refl, sym, ap, ◌∙◌, subst, arith, add-one}
use Rattle.std.specs.Prelude.{unwrap_or}
use Rattle.std.specs.Option.{option_map}
use Rattle.std.proofs.lemmas.Bool.{eqb-true, eqb-false}
use Rattle.std.proofs.lemmas.Option.{slice_get_within, none-some, same_Some, slice_get-map}
use Rattle.entry_faults.specs.declared.mark.Mark.{Mark}
use Rattle.entry_faults.specs.declared.mark.Mark.TheVariants.{New, Open, Closed}
use Rattle.entry_faults.specs.Marks.{is_in, kept_mark, mark_at, is_closed, weight_of, weight}
use Rattle.plex_num.proofs.Lists.{get_set_same, get_set_other}

pub marked_kept : (r : List Bool) (m : List Mark) (p : ℕ) (b : Bool) (k : Mark) → b ≡ is_in r p → b ≡ true → k ≡ kept_mark m p → k ≡ mark_at r m p
unfolding mark_at
marked_kept r m p b k is is_reached kept = kept ∙ ap (λ t. if t then kept_mark m p else Closed) (sym is_reached ∙ is)

pub marked_closed : (r : List Bool) (m : List Mark) (p : ℕ) (b : Bool) → b ≡ is_in r p → b ≡ false → Closed ≡ mark_at r m p
unfolding mark_at
marked_closed r m p b is not_reached = ap (λ t. if t then kept_mark m p else Closed) (sym not_reached ∙ is)

pub closed_is : (k : Mark) → is_closed k ≡ true → k ≡ Closed
closed_is New e = absurd (let clash : false ≡ true = e in cc)
closed_is Open e = absurd (let clash : false ≡ true = e in cc)
closed_is Closed e = refl

pub closed_clash : (k : Mark) → k ≡ Closed → is_closed k ≡ false → ⊥
closed_clash k is other = (let clash : true ≡ false = sym (ap is_closed is) ∙ other in cc)

pub two_marks : {A : Type 0} (k : Mark) (a b : Mark) → (weight_of a ≡ weight_of b → ⊥) → k ≡ a → k ≡ b → A
two_marks k a b differ is_a is_b = absurd (differ (ap weight_of (sym is_a ∙ is_b)))

-- a point that is not closed is reached, and its mark is kept
pub record IsMarked (r : List Bool) (m : List Mark) (p : ℕ) (k : Mark) : Type 0 where
  pub is_reached : is_in r p ≡ true
  pub kept : slice_get m p ≡ Some k

kept_is : (m : List Mark) (p : ℕ) (k : Mark) (o : Option Mark) → slice_get m p ≡ o → unwrap_or o Closed ≡ k → is_closed k ≡ false → slice_get m p ≡ Some k
kept_is m p k None none e other = absurd (let clash : true ≡ false = ap is_closed e ∙ other in cc)
kept_is m p k (Some j) some e other = some ∙ ap Some e

marked_by : (r : List Bool) (m : List Mark) (p : ℕ) (k : Mark) (t : Bool) → is_in r p ≡ t
    → (if t then kept_mark m p else Closed) ≡ k → is_closed k ≡ false → IsMarked r m p k
marked_by r m p k true is e other = record { is_reached = is; kept = kept_is m p k (slice_get m p) refl e other }
marked_by r m p k false is e other = absurd (let clash : true ≡ false = ap is_closed e ∙ other in cc)

pub marked : (r : List Bool) (m : List Mark) (p : ℕ) (k : Mark) → mark_at r m p ≡ k → is_closed k ≡ false → IsMarked r m p k
unfolding mark_at
marked r m p k is other = marked_by r m p k (is_in r p) refl is other

pub new_within : (r : List Bool) (m : List Mark) (p : ℕ) → mark_at r m p ≡ New → p < length m
new_within r m p is = slice_get_within m p New (marked r m p New is refl).kept

pub open_within : (r : List Bool) (m : List Mark) (p : ℕ) → mark_at r m p ≡ Open → p < length m
open_within r m p is = slice_get_within m p Open (marked r m p Open is refl).kept

-- a mark is set

mark_set_same : (r : List Bool) (m : List Mark) (p : ℕ) (j k : Mark) → IsMarked r m p j → mark_at r (slice_set m p k) p ≡ k
unfolding mark_at
mark_set_same r m p j k h =
    ap (λ t. if t then kept_mark (slice_set m p k) p else Closed) h.is_reached
    ∙ ap (λ o. unwrap_or o Closed) (get_set_same m p k (slice_get_within m p j h.kept))

mark_set_other : (r : List Bool) (m : List Mark) (p q : ℕ) (k : Mark) → (q ≡ p → ⊥) → mark_at r (slice_set m p k) q ≡ mark_at r m q
unfolding mark_at
mark_set_other r m p q k other = ap (λ o. if is_in r q then unwrap_or o Closed else Closed) (get_set_other m p q k other)

-- the mark of a point after that of one was set
pub data AfterSet (r : List Bool) (m : List Mark) (p : ℕ) (k : Mark) (q : ℕ) : Type 0 where
  it : q ≡ p → mark_at r (slice_set m p k) q ≡ k → AfterSet r m p k q
  another : (q ≡ p → ⊥) → mark_at r (slice_set m p k) q ≡ mark_at r m q → AfterSet r m p k q

pub after_set : (r : List Bool) (m : List Mark) (p : ℕ) (j k : Mark) → IsMarked r m p j → (q : ℕ) → AfterSet r m p k q
after_set r m p j k h q = by (nat_eq q p) refl
  where
    by : (t : Bool) → nat_eq q p ≡ t → AfterSet r m p k q
    by true same = it (eqb-true q p same) (subst (λ n. mark_at r (slice_set m p k) n ≡ k) (sym (eqb-true q p same)) (mark_set_same r m p j k h))
    by false differ = another (eqb-false q p differ) (mark_set_other r m p q k (eqb-false q p differ))

pub weight_set : (m : List Mark) (p : ℕ) (j k : Mark) → slice_get m p ≡ Some j → weight_of k < weight_of j → weight (slice_set m p k) < weight m
unfolding weight
weight_set [] p j k at lt = absurd (none-some j at)
weight_set (x ∷ xs) zero j k at lt = (let e = ap weight_of (same_Some x j at) in omega (arith, e, lt))
weight_set (x ∷ xs) (suc p) j k at lt = (let h = weight_set xs p j k at lt in omega (arith, h))

-- no point is seen

abbrev pub fresh : List Bool → List Mark
fresh r = map (λ _. New) r

pub data IsFresh (r : List Bool) (p : ℕ) : Type 0 where
  seen_new : is_in r p ≡ true → mark_at r (fresh r) p ≡ New → IsFresh r p
  not_there : is_in r p ≡ false → mark_at r (fresh r) p ≡ Closed → IsFresh r p

fresh_by : (r : List Bool) (p : ℕ) (o : Option Bool) → slice_get r p ≡ o → IsFresh r p
unfolding mark_at
fresh_by r p None none = not_there (ap (λ u. unwrap_or u false) none) (ap (λ u. if unwrap_or u false then kept_mark (fresh r) p else Closed) none)
fresh_by r p (Some false) some = not_there (ap (λ u. unwrap_or u false) some) (ap (λ u. if unwrap_or u false then kept_mark (fresh r) p else Closed) some)
fresh_by r p (Some true) some =
    seen_new (ap (λ u. unwrap_or u false) some)
    (ap (λ u. if unwrap_or u false then kept_mark (fresh r) p else Closed) some
    ∙ ap (λ u. unwrap_or u Closed) (slice_get-map (λ _. New) r p ∙ ap (option_map (λ _. New)) some))

pub is_fresh : (r : List Bool) (p : ℕ) → IsFresh r p
is_fresh r p = fresh_by r p (slice_get r p) refl

in_by : (r : List Bool) (p : ℕ) (o : Option Bool) → slice_get r p ≡ o → unwrap_or o false ≡ true → p < length r
in_by r p None none is = absurd (let clash : false ≡ true = is in cc)
in_by r p (Some b) some is = slice_get_within r p b some

pub in_within : (r : List Bool) (p : ℕ) → is_in r p ≡ true → p < length r
in_within r p is = in_by r p (slice_get r p) refl is

fresh_step : (r : List Bool) (i : ℕ) → i < length r → fresh (take (suc i) r) ≡ fresh (take i r) ++ New ∷ []
fresh_step [] i lt = absurd (omega arith)
fresh_step (x ∷ xs) zero lt = refl
fresh_step (x ∷ xs) (suc i) lt = ap (λ l. New ∷ l) (fresh_step xs i (omega arith))

pub fresh_more : (r : List Bool) (i : ℕ) (now new : List Mark) → i < length r → new ≡ now ++ New ∷ [] → now ≡ fresh (take i r) → new ≡ fresh (take (i + 1) r)
fresh_more r i now new lt made h = made ∙ ap (λ l. l ++ New ∷ []) h ∙ sym (fresh_step r i lt) ∙ ap (λ n. fresh (take n r)) (sym (add-one i))
