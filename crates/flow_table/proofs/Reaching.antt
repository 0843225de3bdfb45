-- The statements that are reached, one after the other.
use Rattle.std.proofs.Common.{◌≡◌, inl, inr, ⊎_elim, ℕ, ◌+◌, ◌<◌, ◌≤◌, List, [], ◌∷◌, ◌++◌, length}
use Rattle.std.proofs.Common.{map, get_or, Some, slice_get, sym, ap, ◌∙◌, subst, arith}
use Rattle.std.proofs.Common.{length-append}
use Rattle.std.specs.List.{Contains}
use Rattle.std.proofs.lemmas.Bool.{cases_lt}
use Rattle.std.proofs.lemmas.List.{length-map, map-append}
use Rattle.std.proofs.lemmas.List.Elements.{Contains-append_left, Contains-push}
use Rattle.std.proofs.lemmas.Option.{none-some, same_Some, slice_get_within}
use Rattle.plex_num.proofs.Lists.{get_push}
use Rattle.plex_num.proofs.Members.{first_or_later, none_in, first_is, later_is}
use Rattle.exchange_model.specs.declared.exchange.Exchange.{Exchange}
use Rattle.flow_points.specs.Facts.{Facts, Reached}
use Rattle.flow_points.specs.Places.{IsPlace, Place, StandsAt}
use Rattle.flow_table.specs.declared.place.PlaceAt.{PlaceAt}
use Rattle.flow_table.specs.Texts.{ArePlaces, AreReachedAmong, HasReached, seen}
use Rattle.flow_table.proofs.Rowing.{seen_at}

-- of the first so many points those that are reached
pub record AmongGo (x : Exchange) (P : Facts) (e i : ℕ) (ps : List Place) : Type 0 where
  pub few : length ps ≤ i
  pub each : (j : ℕ) (at : Place) → slice_get ps j ≡ Some at → IsPlace x at × (at.point < i)
  pub rising : (j k : ℕ) (a b : Place) → j < k → slice_get ps j ≡ Some a → slice_get ps k ≡ Some b → a.point < b.point
  pub all : (p : ℕ) (at : Place) → p < i → StandsAt x p at → Reached P e p → Contains ps at

-- whatever the exchange is of which these are the places
abbrev pub Goes : Facts → ℕ → List PlaceAt → ℕ → List PlaceAt → Type 0
Goes P e places i there = (x : Exchange) → ArePlaces x (map seen places) → AmongGo x P e i (map seen there)

pub among_begin : (P : Facts) (e : ℕ) (places there : List PlaceAt) → there ≡ [] → Goes P e places 0 there
among_begin P e places there none x are = subst (λ l. AmongGo x P e 0 (map seen l)) (sym none) (record {
  few = omega arith;
  each = λ j at h. absurd (none-some at h);
  rising = λ j k a b lt h. absurd (none-some a h);
  all = λ p at lt. absurd (omega arith);
})

module _ (x : Exchange) (P : Facts) (e i : ℕ) (places there new : List PlaceAt) (at : PlaceAt)
    (are : ArePlaces x (map seen places)) (lt : i < length places) (is : at ≡ get_or places i at)
    (g : AmongGo x P e i (map seen there)) where
  here : StandsAt x i (seen at)
  here = are.stands i (seen at) (seen_at places i at lt is)

  only : (p : ℕ) (q : Place) → p ≡ i → StandsAt x p q → q ≡ seen at
  only p q same stands = same_Some q (seen at) (sym (are.listed i q (subst (λ n. StandsAt x n q) same stands)) ∙ seen_at places i at lt is)

  among_yes : Reached P e at.point → new ≡ there ++ at ∷ [] → AmongGo x P e (i + 1) (map seen new)
  among_yes reached made = subst (AmongGo x P e (i + 1)) (sym (ap (map seen) made ∙ map-append seen there (at ∷ []))) (record {
    few = (let l = length-append (map seen there) (seen at ∷ []) in let f = g.few in omega (arith, l, f));
    each = λ j q h. ⊎_elim (λ old. (let o = g.each j q old in (o.0, (let b = o.1 in omega (arith, b)))))
        (λ now. own q now.1) (get_push (map seen there) (seen at) q j h);
    rising = λ j k a b low ha hb. ⊎_elim (λ old. before j k a b low ha old) (λ now. last j k a b low ha now.0 now.1)
        (get_push (map seen there) (seen at) b k hb);
    all = λ p q under stands reach. ⊎_elim (λ low. Contains-append_left (map seen there) (seen at ∷ []) q
        (g.all p q low stands reach)) (λ from. subst (Contains (map seen there ++ seen at ∷ []))
        (sym (only p q (let e : p ≡ i = omega (arith, under, from) in e) stands))
        (Contains-push (map seen there) (seen at))) (cases_lt p i);
  })
    where
      own : (q : Place) → seen at ≡ q → IsPlace x q × (q.point < i + 1)
      own q same = subst (λ (r : Place). IsPlace x r × (r.point < i + 1)) same (here.place, (let p = here.here in omega (arith, p)))

      old_below : (j : ℕ) (a : Place) → j < length (map seen there)
          → slice_get (map seen there ++ seen at ∷ []) j ≡ Some a → slice_get (map seen there) j ≡ Some a
      old_below j a low h = ⊎_elim (λ old. old) (λ now. absurd (let n = now.0 in omega (arith, low, n))) (get_push (map seen there) (seen at) a j h)

      before : (j k : ℕ) (a b : Place) → j < k → slice_get (map seen there ++ seen at ∷ []) j ≡ Some a
          → slice_get (map seen there) k ≡ Some b → a.point < b.point
      before j k a b low ha hb = g.rising j k a b low (old_below j a (let w = slice_get_within (map seen there) k b hb in omega (arith, low, w)) ha) hb

      last : (j k : ℕ) (a b : Place) → j < k → slice_get (map seen there ++ seen at ∷ []) j ≡ Some a
          → k ≡ length (map seen there) → seen at ≡ b → a.point < b.point
      last j k a b low ha end same =
          let o = g.each j a (old_below j a (omega (arith, low, end)) ha) in
          let below = o.1 in
          let point = here.here in
          subst (λ (r : Place). a.point < r.point) same (omega (arith, below, point))

  among_not : (Reached P e at.point → ⊥) → new ≡ there → AmongGo x P e (i + 1) (map seen new)
  among_not none made = subst (λ l. AmongGo x P e (i + 1) (map seen l)) (sym made) (record {
    few = (let f = g.few in omega (arith, f));
    each = λ j q h. (let o = g.each j q h in (o.0, (let b = o.1 in omega (arith, b))));
    rising = g.rising;
    all = λ p q under stands reach.
        ⊎_elim
        (λ low. g.all p q low stands reach)
        (λ from. absurd (none (let same : p ≡ i = omega (arith, under, from) in subst (Reached P e) (same ∙ sym here.here) reach)))
        (cases_lt p i);
  })

pub among_more : (P : Facts) (e : ℕ) (places : List PlaceAt) (i : ℕ) (at : PlaceAt) (there new : List PlaceAt)
    → i < length places → at ≡ get_or places i at → HasReached P e at there new → Goes P e places i there
    → Goes P e places (i + 1) new
among_more P e places i at there new lt is (inl h) g x are = among_yes x P e i places there new at are lt is (g x are) h.0 h.1
among_more P e places i at there new lt is (inr h) g x are = among_not x P e i places there new at are lt is (g x are) h.0 h.1

pub among_end : (P : Facts) (e : ℕ) (places : List PlaceAt) (i : ℕ) (there : List PlaceAt) → length places ≤ i
    → i ≤ length places → Goes P e places i there → (x : Exchange) → ArePlaces x (map seen places)
    → AreReachedAmong x P e (map seen there)
among_end P e places i there past within goes x are =
    let g = goes x are in
    let long = length-map places seen in
    let every = are.each_point in
    record {
      few = (let f = g.few in omega (arith, f, within, long, every));
      each = λ j at h. (g.each j at h).0;
      rising = g.rising;
      all = λ p at stands reach. g.all p at (let w = slice_get_within (map seen places) p at (are.listed p at stands) in
          omega (arith, w, long, past)) stands reach;
    }

-- what is in a mapped list comes of an item
pub of_map : {A B : Type 0} (f : A → B) (xs : List A) (y : B) → Contains (map f xs) y → (x : A) × Contains xs x × (f x ≡ y)
of_map f [] y c = absurd (none_in y c)
of_map f (x ∷ xs) y c =
    ⊎_elim
    (λ same. (x, first_is x xs, same))
    (λ later. let r = of_map f xs y later in (r.0, later_is x r.0 xs r.1, r.2))
    (first_or_later (f x) y (map f xs) c)
