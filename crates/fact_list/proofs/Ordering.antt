-- Facts in order, each once.
use Rattle.std.proofs.Common.{◌≡◌, ◌↔◌, ℕ, ◌<◌, Bool, List, sym, ap, ◌∙◌, subst, IsPermutation}
use Rattle.std.proofs.Common.{IsSorted}
use Rattle.std.specs.List.{Contains, dedup}
use Rattle.std.specs.List.Sorted.{IsStrictlySortedBy}
use Rattle.std.specs.Ordering.{nat_cmp, ordering_then}
use Rattle.std.specs.declared.cmp.Ordering.TheVariants.{Equal, Less}
use Rattle.std.proofs.lemmas.Cmp.{nat_cmp_total, tied_itself}
use Rattle.std.proofs.lemmas.List.Kept.{IsStrictlySortedBy-dedup}
use Rattle.flow_points.specs.declared.fact.Fact.{Fact}
use Rattle.flow_points.specs.contracts.fact.FactPartialEq.TheImpl as equal
use Rattle.flow_points.specs.contracts.fact.FactEq.TheImpl.Laws as equal_laws
use Rattle.flow_points.specs.contracts.fact.FactOrd.TheImpl.Laws as order_laws
use Rattle.flow_points.specs.contracts.fact.SlotOrd.TheImpl as slots
use Rattle.flow_points.specs.contracts.fact.ValueOrd.TheImpl as values
use Rattle.flow_points.specs.Orders.{fact_order}
use Rattle.flow_points.proofs.Orders.{same_fact}
use Rattle.fact_rows.proofs.Listing.{nat_less}
use Rattle.entry_summary.proofs.Sorting.{same_items}

abbrev pub alike : Fact → Fact → Bool
alike = equal.ghosts.eq

pub sorted_rising : (sorted new result : List Fact) → IsSorted fact_order sorted → new ≡ dedup alike sorted
    → result ≡ new → IsStrictlySortedBy fact_order result
sorted_rising sorted new result h is same = subst (IsStrictlySortedBy fact_order) (sym (same ∙ is))
    (IsStrictlySortedBy-dedup order_laws.total-law order_laws.matches_eq-law sorted h)

pub same_facts : (found items sorted new result : List Fact) → items ≡ found → IsPermutation items sorted
    → new ≡ dedup alike sorted → result ≡ new → (f : Fact) → Contains result f ↔ Contains found f
same_facts = same_items alike equal_laws.laws-law same_fact

-- which of two facts comes first, by their entries, and of one entry by their points

pub entry_less : (f g : Fact) → f.entry < g.entry → fact_order f g ≡ Less
entry_less f g lt = ap (λ o. ordering_then o (ordering_then (nat_cmp f.point g.point)
    (ordering_then (slots.ghosts.cmp f.slot g.slot) (values.ghosts.cmp f.value g.value)))) (nat_less f.entry g.entry lt)

pub point_less : (f g : Fact) → f.entry ≡ g.entry → f.point < g.point → fact_order f g ≡ Less
point_less f g same lt =
    let tied : nat_cmp f.entry g.entry ≡ Equal = subst (λ (n : ℕ). nat_cmp f.entry n ≡ Equal) same (tied_itself nat_cmp_total f.entry) in
    ap (λ o. ordering_then o (ordering_then (nat_cmp f.point g.point)
    (ordering_then (slots.ghosts.cmp f.slot g.slot) (values.ghosts.cmp f.value g.value)))) tied
    ∙ ap (λ o. ordering_then o (ordering_then (slots.ghosts.cmp f.slot g.slot) (values.ghosts.cmp f.value g.value))) (nat_less f.point g.point lt)
