-- The facts that are counted, one point after the other.
use Rattle.std.proofs.Common.{◌≡◌, ⊎_elim, ℕ, zero, suc, ◌+◌, ◌*◌, ◌<◌, ◌≤◌, List, [], ◌∷◌, ◌++◌}
use Rattle.std.proofs.Common.{length, take, get_or, Option, Some, None, sym, ◌∙◌, subst, arith}
use Rattle.std.proofs.Common.{length-append}
use Rattle.std.specs.Prelude.{IfSome}
use Rattle.std.specs.declared.cmp.Ordering.TheVariants.{Less}
use Rattle.std.specs.List.{Contains}
use Rattle.std.specs.List.Sorted.{IsStrictlySortedBy}
use Rattle.std.specs.Ordering.{nat_cmp}
use Rattle.std.proofs.lemmas.List.Elements.{Contains-append_cases, Contains-get_or}
use Rattle.std.proofs.lemmas.Map.Keys.{sorted_tail}
use Rattle.plex_num.proofs.Members.{first_or_later, none_in}
use Rattle.exchange_model.specs.declared.exchange.Exchange.{Exchange}
use Rattle.flow_points.specs.declared.fact.Fact.{Fact}
use Rattle.flow_points.specs.Orders.{fact_order}
use Rattle.flow_table.specs.declared.row.FlowTable.{FlowTable}
use Rattle.fact_rows.specs.Known.{AreFacts, BitRows, Knows, KnowsAt}
use Rattle.fact_rows.proofs.Holding.{rising_past}
use Rattle.fact_rows.proofs.Listing.{sorted_append, sorted_none}
use Rattle.fact_list.proofs.Ordering.{point_less}
use Rattle.least_facts.specs.declared.looks.TheConstants.{LOOKS_OF_FACT}
use Rattle.least_facts.specs.Giving.{IsOwnLeast}
use Rattle.least_facts.specs.Growing.{IsLeastSoFar, Search}
use Rattle.least_facts.specs.Least.{KnowLeast}
use Rattle.least_facts.specs.Looks.{HasFacts, IsOver, IsOverBy}
use Rattle.least_facts.proofs.Filling.{now_before, still_before}

-- no facts are enough for no looks
pub no_facts : (P : Fact → Type 0) → HasFacts P 0
no_facts P = record { facts = []; rising = sorted_none fact_order; each = λ f c. absurd (none_in f c); enough = omega arith }

-- facts of another kind too, for no more looks
pub facts_as : (P Q : Fact → Type 0) (many few : ℕ) → few ≤ many → ((f : Fact) → P f → Q f) → HasFacts P many → HasFacts Q few
facts_as P Q many few le over h = record {
  facts = h.facts;
  rising = h.rising;
  each = λ f c. over f (h.each f c);
  enough = (let enough = h.enough in omega (arith, le, enough));
}

-- facts before others, for the looks of both
pub facts_both : (P Q R : Fact → Type 0) (a b n : ℕ) → n ≤ a + b → ((f : Fact) → P f → R f) → ((f : Fact) → Q f → R f)
    → ((f g : Fact) → P f → Q g → fact_order f g ≡ Less) → HasFacts P a → HasFacts Q b → HasFacts R n
facts_both P Q R a b n le first second less g h = record {
  facts = g.facts ++ h.facts;
  rising = sorted_append fact_order g.facts h.facts g.rising h.rising (λ u v c d. less u v (g.each u c) (h.each v d));
  each = λ f c. ⊎_elim (λ left. first f (g.each f left)) (λ right. second f (h.each f right)) (Contains-append_cases g.facts h.facts f c);
  enough = (let one = g.enough in let other = h.enough in let both = length-append g.facts h.facts in omega (arith, le, one, other, both));
}

-- ---- the facts that rows know

-- the points in front of a place come before the one at it
pub before_less : (xs : List ℕ) (i d : ℕ) → IsStrictlySortedBy nat_cmp xs → i < length xs → (a : ℕ) → Contains (take i xs) a → a < get_or xs i d
before_less [] i d up lt a c = absurd (omega (arith, lt))
before_less (x ∷ xs) zero d up lt a c = absurd (none_in a c)
before_less (x ∷ xs) (suc i) d up lt a c =
    let within : i < length xs = omega (arith, lt) in
    ⊎_elim
    (λ (here : x ≡ a). subst (λ y. y < get_or xs i d) here (rising_past x xs up (get_or xs i d) (Contains-get_or xs i d within)))
    (λ later. before_less xs i d (sorted_tail nat_cmp x xs up) within a later)
    (first_or_later x a (take i xs) c)

-- the rows know the fact, which is of one of these points
pub record KnowsAmong (k : BitRows) (points : List ℕ) (f : Fact) : Type 0 where
  pub point : Contains points f.point
  pub known : Knows k f

pub room_begin : (k : BitRows) (points : List ℕ) → HasFacts (KnowsAmong k (take 0 points)) 0
room_begin k points = no_facts (KnowsAmong k (take 0 points))

pub room_more : (k : BitRows) (points : List ℕ) (i d n new : ℕ) (facts : List Fact) → IsStrictlySortedBy nat_cmp points
    → i < length points → AreFacts (KnowsAt k (get_or points i d)) facts → new ≤ n + LOOKS_OF_FACT * length facts
    → HasFacts (KnowsAmong k (take i points)) n → HasFacts (KnowsAmong k (take (i + 1) points)) new
room_more k points i d n new facts up lt are le h =
    facts_both (KnowsAmong k (take i points)) (KnowsAt k (get_or points i d)) (KnowsAmong k (take (i + 1) points)) n (LOOKS_OF_FACT * length facts) new le
    (λ f g. record { point = still_before points i d f.point lt g.point; known = g.known })
    (λ f g. record { point = subst (Contains (take (i + 1) points)) (sym g.0) (now_before points i d lt); known = g.1 })
    (λ f g before here. point_less f g (before.known.entry ∙ sym here.1.entry)
    (subst (λ p. f.point < p) (sym here.0) (before_less points i d up lt f.point before.point)))
    h (record { facts = facts; rising = are.rising; each = are.each; enough = omega arith })

pub room_end : (k : BitRows) (points : List ℕ) (i n : ℕ) → HasFacts (KnowsAmong k (take i points)) n → HasFacts (Knows k) n
room_end k points i n h = facts_as (KnowsAmong k (take i points)) (Knows k) n n (omega arith) (λ f g. g.known) h

-- ---- what is told

pub told_over : (k : BitRows) (most : Option ℕ) (o : Option ℕ) (told : ℕ) → HasFacts (Knows k) told
    → IfSome o (λ over. (over ≡ told) × IsOver most told) → IfSome o (IsOverBy (Knows k) most)
told_over k most None told facts h = h
told_over k most (Some over) told facts h = (subst (IsOver most) (sym h.0) h.1, subst (HasFacts (Knows k)) (sym h.0) facts)

-- all that is known is least

pub least_over : (x : Exchange) (t : FlowTable) (e : ℕ) (s : Search) (most : Option ℕ) (o : Option ℕ) (looks : ℕ)
    → IsLeastSoFar x t e s → o ≡ Some looks → IfSome o (IsOverBy (Knows s.rows) most)
    → IsOverBy (IsOwnLeast x e) most looks
least_over x t e s most o looks stands is over =
    let own : IsOverBy (Knows s.rows) most looks = subst (λ q. IfSome q (IsOverBy (Knows s.rows) most)) is over in (
      own.0,
      facts_as (Knows s.rows) (IsOwnLeast x e) looks looks (omega arith)
          (λ f g. record { entry = known_entry f g ∙ stands.of_entry; least = stands.least f g }) own.1,
    )
  where
    known_entry : (f : Fact) → Knows s.rows f → f.entry ≡ s.rows.entry
    known_entry f h = h.entry

pub least_told : (x : Exchange) (e : ℕ) (k : BitRows) (told : ℕ) → HasFacts (Knows k) told → KnowLeast x e k → HasFacts (IsOwnLeast x e) told
least_told x e k told h know = facts_as (Knows k) (IsOwnLeast x e) told told (omega arith)
    (λ f g. record { entry = ((know.exact f).0 g).0; least = ((know.exact f).0 g).1 }) h
