-- The facts of an entry, listed point by point.
use Rattle.std.proofs.Common.{◌≡◌, ◌⊎◌, inl, inr, ⊎_elim, ℕ, zero, suc, ◌+◌, ◌<◌, ◌≤◌, List, []}
use Rattle.std.proofs.Common.{◌∷◌, ◌++◌, length, take, get_or, refl, sym, ap, ◌∙◌, subst, arith}
use Rattle.std.proofs.Common.{append-nil, append_assoc}
use Rattle.std.specs.declared.cmp.Ordering.TheVariants.{Less}
use Rattle.std.specs.List.{Contains}
use Rattle.std.specs.List.Sorted.{IsStrictlySortedBy}
use Rattle.std.specs.Ordering.{nat_cmp}
use Rattle.std.proofs.lemmas.List.{take_all, take_more}
use Rattle.std.proofs.lemmas.List.Elements.{Contains-append_left, Contains-append_right}
use Rattle.std.proofs.lemmas.List.Elements.{Contains-append_cases, Contains-get_or}
use Rattle.std.proofs.lemmas.Map.Keys.{sorted_tail}
use Rattle.plex_num.proofs.Members.{first_or_later, none_in}
use Rattle.exchange_model.specs.declared.exchange.Exchange.{Exchange}
use Rattle.flow_points.specs.declared.fact.Fact.{Fact}
use Rattle.flow_points.specs.Facts.{Facts}
use Rattle.flow_points.specs.Orders.{fact_order}
use Rattle.fact_rows.specs.Known.{AreFacts, ArePointsOf, BitRows, Knows, KnowsAt}
use Rattle.fact_rows.proofs.Holding.{rising_past}
use Rattle.fact_rows.proofs.Listing.{sorted_append, sorted_none}
use Rattle.fact_list.proofs.Ordering.{point_less}
use Rattle.least_facts.specs.Least.{KnowLeast}
use Rattle.least_facts.proofs.Filling.{before_or_here}
use Rattle.certificate_text.specs.Text.{facts_text}
use Rattle.certificate_text.proofs.Printed.{facts_append}
use Rattle.certificate.specs.Entries.{AddsLines, KnowsAmong, LeastOf}

-- lines

none_added : (G : Facts) (text : List ℕ) → ((f : Fact) → G f → ⊥) → AddsLines G text text
none_added G text none = record {
  facts = [];
  exact = λ f. ((λ c. absurd (none_in f c)), (λ g. absurd (none f g)));
  rising = sorted_none fact_order;
  is = sym (append-nil text);
}

both_added : (A B C : Facts) (old mid new : List ℕ) → ((f : Fact) → A f → C f) → ((f : Fact) → B f → C f)
    → ((f : Fact) → C f → A f ⊎ B f) → ((f g : Fact) → A f → B g → fact_order f g ≡ Less) → AddsLines A old mid
    → AddsLines B mid new → AddsLines C old new
both_added A B C old mid new first second either order a b = record {
  facts = a.facts ++ b.facts;
  exact = λ f. (
    (λ c. ⊎_elim (λ here. first f ((a.exact f).0 here)) (λ there. second f ((b.exact f).0 there)) (Contains-append_cases a.facts b.facts f c)),
    (λ g. ⊎_elim (λ here. Contains-append_left a.facts b.facts f ((a.exact f).1 here))
        (λ there. Contains-append_right a.facts b.facts f ((b.exact f).1 there)) (either f g)),
  );
  rising = sorted_append fact_order a.facts b.facts a.rising b.rising (λ f g c d. order f g ((a.exact f).0 c) ((b.exact g).0 d));
  is = b.is ∙ ap (λ (t : List ℕ). t ++ facts_text b.facts) a.is
      ∙ append_assoc old (facts_text a.facts) (facts_text b.facts)
      ∙ ap (λ (t : List ℕ). old ++ t) (sym (facts_append a.facts b.facts));
}

-- some facts, and then those behind them
pub some_added : (start text mid : List ℕ) (all rest some later : List Fact) → rest ≡ some ++ later
    → mid ≡ text ++ facts_text some → text ++ facts_text rest ≡ start ++ facts_text all
    → mid ++ facts_text later ≡ start ++ facts_text all
some_added start text mid all rest some later split put before =
    ap (λ (t : List ℕ). t ++ facts_text later) put ∙ append_assoc text (facts_text some) (facts_text later)
    ∙ ap (λ (t : List ℕ). text ++ t) (sym (facts_append some later) ∙ ap facts_text (sym split)) ∙ before

-- those of a point

pub point_added : (k : BitRows) (p : ℕ) (facts given : List Fact) (text new : List ℕ) → AreFacts (KnowsAt k p) facts
    → given ≡ facts → new ≡ text ++ facts_text given → AddsLines (KnowsAt k p) text new
point_added k p facts given text new are same grown = record {
  facts = facts;
  exact = λ f. (are.each f, are.listed f);
  rising = are.rising;
  is = grown ∙ ap (λ (l : List Fact). text ++ facts_text l) same;
}

-- one point after the other

pub points_begin : (k : BitRows) (points text : List ℕ) → AddsLines (KnowsAmong k (take 0 points)) text text
points_begin k points text = none_added (KnowsAmong k []) text (λ f h. none_in f.point h.0)

-- the points in front of a place come before the one at it
before_less : (xs : List ℕ) (i d : ℕ) → IsStrictlySortedBy nat_cmp xs → i < length xs → (a : ℕ) → Contains (take i xs) a → a < get_or xs i d
before_less [] i d up lt a c = absurd (omega (arith, lt))
before_less (x ∷ xs) zero d up lt a c = absurd (none_in a c)
before_less (x ∷ xs) (suc i) d up lt a c =
    let within : i < length xs = omega (arith, lt) in
    ⊎_elim
    (λ (here : x ≡ a). subst (λ y. y < get_or xs i d) here (rising_past x xs up (get_or xs i d) (Contains-get_or xs i d within)))
    (λ later. before_less xs i d (sorted_tail nat_cmp x xs up) within a later)
    (first_or_later x a (take i xs) c)

pub points_more : (k : BitRows) (points : List ℕ) (i d : ℕ) (old mid new : List ℕ) → ArePointsOf (Knows k) points
    → i < length points → AddsLines (KnowsAt k (get_or points i d)) mid new
    → AddsLines (KnowsAmong k (take i points)) old mid
    → AddsLines (KnowsAmong k (take (i + 1) points)) old new
points_more k points i d old mid new are lt here before =
    both_added (KnowsAmong k (take i points)) (KnowsAt k (get_or points i d)) (KnowsAmong k (take (i + 1) points)) old mid new
    (λ f h. (Contains-take_more f.point h.0, h.1))
    (λ f h. (subst (Contains (take (i + 1) points)) (sym h.0) last, h.1))
    (λ f h. ⊎_elim (λ there. inl (there, h.1)) (λ is. inr (is, h.1)) (before_or_here points i d f.point lt h.0))
    (λ f g h own. point_less f g (h.1.entry ∙ sym own.1.entry) (subst (λ p. f.point < p) (sym own.0) (before_less points i d are.rising lt f.point h.0)))
    before here
  where
    one_more : take (i + 1) points ≡ take i points ++ get_or points i d ∷ []
    one_more = take_more points i d lt

    Contains-take_more : (p : ℕ) → Contains (take i points) p → Contains (take (i + 1) points) p
    Contains-take_more p c = subst (λ l. Contains l p) (sym one_more) (Contains-append_left (take i points) (get_or points i d ∷ []) p c)

    last : Contains (take (i + 1) points) (get_or points i d)
    last = subst (λ l. Contains l (get_or points i d)) (sym one_more)
        (Contains-append_right (take i points) (get_or points i d ∷ []) (get_or points i d) (0, omega arith, refl))

pub points_end : (k : BitRows) (points : List ℕ) (i : ℕ) (old new : List ℕ) → ArePointsOf (Knows k) points
    → length points ≤ i → AddsLines (KnowsAmong k (take i points)) old new → AddsLines (Knows k) old new
points_end k points i old new are past l = record {
  facts = l.facts;
  exact = λ f. (
    (λ c. ((l.exact f).0 c).1),
    (λ known. (l.exact f).1
        (subst (λ ps. Contains ps f.point) (sym (take_all i points past)) (are.listed f known), known)),
  );
  rising = l.rising;
  is = l.is;
}

-- rows that know the least facts of an entry
pub entry_added : (x : Exchange) (e : ℕ) (k : BitRows) (old new : List ℕ) → KnowLeast x e k → AddsLines (Knows k) old new → AddsLines (LeastOf x e) old new
entry_added x e k old new know l = record {
  facts = l.facts;
  exact = λ f. ((λ c. (know.exact f).0 ((l.exact f).0 c)), (λ least. (l.exact f).1 ((know.exact f).1 least)));
  rising = l.rising;
  is = l.is;
}
