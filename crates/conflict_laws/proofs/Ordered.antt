-- The rows are in the order of their conflicts.
use Rattle.std.proofs.Common.{◌≡◌, inl, inr, ℕ, ◌<◌, List, get_or, Some, refl, sym, ap, ◌∙◌}
use Rattle.std.specs.Prelude.{slice_get}
use Rattle.std.specs.List.Sorted.{IsStrictlySortedBy}
use Rattle.std.specs.Ordering.{nat_cmp, ordering_reverse, ordering_then}
use Rattle.std.specs.declared.cmp.Ordering.{Ordering}
use Rattle.std.specs.declared.cmp.Ordering.TheVariants.{Less, Equal, Greater}
use Rattle.std.proofs.lemmas.Cmp.{nat_cmp_total, tied_itself}
use Rattle.std.proofs.lemmas.Map.Keys.{Less-from_sorted}
use Rattle.std.proofs.lemmas.Option.{get_or_from_slice_get, slice_get_within}
use Rattle.flow_points.specs.declared.fact.Value.{Value}
use Rattle.flow_points.specs.contracts.fact.ValueOrd.TheImpl.Laws as value_laws
use Rattle.fact_rows.proofs.Listing.{nat_less}
use Rattle.entry_summary.specs.Orders.{level_number, value_order}
use Rattle.pair_tests.specs.declared.pair.Conflict.{Conflict}
use Rattle.pair_tests.specs.declared.pair.Conflict.TheVariants.{Variable, Field, Seizing, Above}
use Rattle.pair_tests.specs.Orders.{Precedes, SelectorsPrecede}
use Rattle.conflicts_meaning.specs.declared.rows.Clash.{Clash}
use Rattle.conflicts_meaning.specs.declared.rows.ClashRow.{ClashRow}
use Rattle.conflicts_meaning.specs.contracts.rows.ClashOrd.TheImpl as clashes
use Rattle.conflicts_meaning.specs.contracts.rows.ClashOrd.TheImpl.Laws as clash_laws
use Rattle.conflicts_meaning.specs.Rows.{listed, row_order}
use Rattle.conflict_laws.specs.Conflicts.{AreInOrder, IsToldAt}

abbrev clash_order : Clash → Clash → Ordering
clash_order = clashes.ghosts.cmp

-- a conflict that precedes another one is listed before it

tied : (u : Value) → value_order u u ≡ Equal
tied u = tied_itself value_laws.total-law u

selectors_less : (u v w z : Value) → SelectorsPrecede u v w z → ordering_then (value_order u w) (value_order v z) ≡ Less
selectors_less u v w z (inl h) = ap (λ o. ordering_then o (value_order v z)) h
selectors_less u v w z (inr h) = ap (λ o. ordering_then o (value_order v z)) (ap (value_order u) (sym h.0) ∙ tied u) ∙ h.1

field_less : (n m : ℕ) (u v w z : Value) → Precedes (Field n u v) (Field m w z)
    → ordering_then (nat_cmp n m) (ordering_then (value_order u w) (value_order v z)) ≡ Less
field_less n m u v w z (inl h) = ap (λ o. ordering_then o (ordering_then (value_order u w) (value_order v z))) (nat_less n m h)
field_less n m u v w z (inr h) =
    ap (λ o. ordering_then o (ordering_then (value_order u w) (value_order v z)))
    (ap (nat_cmp n) (sym h.0) ∙ tied_itself nat_cmp_total n) ∙ selectors_less u v w z h.1

listed_before : (c d : Conflict) → Precedes c d → clash_order (listed c) (listed d) ≡ Less
listed_before (Variable n) (Variable m) h = nat_less n m h
listed_before (Variable n) (Field m w z) h = refl
listed_before (Variable n) (Seizing g) h = refl
listed_before (Variable n) (Above m) h = refl
listed_before (Field n u v) (Variable m) h = absurd h
listed_before (Field n u v) (Field m w z) h = field_less n m u v w z h
listed_before (Field n u v) (Seizing g) h = refl
listed_before (Field n u v) (Above m) h = refl
listed_before (Seizing f) (Variable m) h = absurd h
listed_before (Seizing f) (Field m w z) h = absurd h
listed_before (Seizing f) (Seizing g) h = nat_less f g h
listed_before (Seizing f) (Above m) h = refl
listed_before (Above l) (Variable m) h = absurd h
listed_before (Above l) (Field m w z) h = absurd h
listed_before (Above l) (Seizing g) h = absurd h
listed_before (Above l) (Above m) h = nat_less (level_number l) (level_number m) h

-- no row is listed before one whose conflict precedes its own

behind : (r s : ClashRow) → clash_order s.clash r.clash ≡ Less → row_order r s ≡ Less → ⊥
behind r s low less =
    let high : clash_order r.clash s.clash ≡ Greater = clash_laws.total-law.antisymm r.clash s.clash ∙ ap ordering_reverse low in
    let above : row_order r s ≡ Greater = ap (λ o. ordering_then o (ordering_then (nat_cmp r.first s.first) (nat_cmp r.later s.later))) high in
    let both : Less ≡ Greater = sym less ∙ above in
    cc

module _ (rows : List ClashRow) (rising : IsStrictlySortedBy row_order rows) where
  row_less : (i j : ℕ) (r s : ClashRow) → i < j → slice_get rows i ≡ Some r → slice_get rows j ≡ Some s → row_order r s ≡ Less
  row_less i j r s lt one other =
      let first : get_or rows i r ≡ r = get_or_from_slice_get rows i r r one in
      let later : get_or rows j r ≡ s = get_or_from_slice_get rows j s r other in
      (λ k. row_order (sym first k) (sym later k)) ∙ Less-from_sorted row_order rows i j r rising lt (slice_get_within rows j s other)

  none_before : (i j : ℕ) (c d : Conflict) → i < j → IsToldAt rows i c → IsToldAt rows j d → Precedes d c → ⊥
  none_before i j c d lt one other before =
      let low : clash_order other.row.clash one.row.clash ≡ Less = (λ k. clash_order (other.is k) (one.is k)) ∙ listed_before d c before in
      behind one.row other.row low (row_less i j one.row other.row lt one.there other.there)

  pub in_order : AreInOrder rows
  in_order = record { none_before = none_before }
