-- What a search in facts that rise finds.
use Rattle.std.proofs.Common.{◌≡◌, ◌⊎◌, inl, inr, ◌↔◌, ℕ, ◌+◌, ◌-◌, ◌<◌, ◌≤◌, Bool, true, false}
use Rattle.std.proofs.Common.{List, length, get_or, drop, map, Contains, Some, Result, IfOk, Ok}
use Rattle.std.proofs.Common.{Err, refl, sym, subst, ap, ◌∙◌, arith, length-drop, length-take-le}
use Rattle.std.proofs.Common.{get_or-drop, get_or-take}
use Rattle.std.specs.Prelude.{IsTrue, slice_get, slice_range, nat_lt}
use Rattle.std.specs.declared.cmp.Ordering.{Ordering}
use Rattle.std.specs.declared.cmp.Ordering.TheVariants.{Less, Equal, Greater}
use Rattle.std.specs.List.Sorted.{IsBinarySearchResult, IsPartitionPoint, IsStrictlySortedBy}
use Rattle.std.specs.Ordering.{is_gt, is_lt, nat_cmp, ordering_reverse, ordering_then}
use Rattle.std.proofs.lemmas.Bool.{cases_lt, lt-ltb, ltb-true}
use Rattle.std.proofs.lemmas.Cmp.{alike_right, nat_cmp_total, ranked, tied_itself}
use Rattle.std.proofs.lemmas.List.{get_or-map, get_or_default, length-map}
use Rattle.std.proofs.lemmas.List.Sorted.{searchable_from_sorted}
use Rattle.std.proofs.lemmas.Map.Keys.{Less-from_sorted}
use Rattle.std.proofs.lemmas.Option.{get_or_from_slice_get, slice_get_within}
use Rattle.plex_num.proofs.Numbers.{is_less, nat_same}
use Rattle.flow_points.specs.declared.fact.Slot.{Slot}
use Rattle.flow_points.specs.declared.fact.Slot.TheVariants.{Depth}
use Rattle.flow_points.specs.declared.fact.Value.{Value}
use Rattle.flow_points.specs.declared.fact.Value.TheVariants.{Arg, Const, Any}
use Rattle.flow_points.specs.declared.fact.Fact.{Fact}
use Rattle.flow_points.specs.Facts.{fact, Reached}
use Rattle.flow_points.specs.contracts.fact.FactOrd.TheImpl.Laws.{total-law}
use Rattle.flow_points.specs.contracts.fact.SlotOrd.TheImpl as slots
use Rattle.flow_points.specs.contracts.fact.SlotOrd.TheImpl.Laws as slot_laws
use Rattle.flow_points.specs.contracts.fact.ValueOrd.TheImpl as values
use Rattle.flow_points.specs.Orders.{fact_order}
use Rattle.flow_points.proofs.Orders.{order_same}
use Rattle.flow_table.specs.Giving.{AreValues}
use Rattle.fact_rows.proofs.Listing.{slot_same}
use Rattle.fact_list.specs.declared.search.Span.{Span}
use Rattle.fact_list.specs.Spans.{AreAbove, AreBelow, IsSpan, Rises, shifted, value_of}

-- ---- the place of a fact

is_more : (o : Ordering) → is_gt o ≡ true → o ≡ Greater
is_more Less e = cc
is_more Equal e = cc
is_more Greater e = refl

module _ (facts : List Fact) (f : Fact) (up : Rises facts) where
  falls : (i j : ℕ) (d : Fact) → i < j → j < length facts → fact_order (get_or facts j d) (get_or facts i d) ≡ Greater
  falls i j d lt inside = total-law.antisymm (get_or facts j d) (get_or facts i d) ∙ ap ordering_reverse (up.pairs i j d lt inside)

  pub span_found : (place : ℕ) → place < length facts → ((d : Fact) → fact_order (get_or facts place d) f ≡ Equal)
      → IsSpan facts f (record { from = place; to = place + 1 })
  span_found place inside same = record {
    ordered = omega arith;
    within = omega arith;
    before = λ k d lt. sym (alike_right total-law (get_or facts place d) f (get_or facts k d) (same d)) ∙ up.pairs k place d lt inside;
    here = λ k d le lt. (let at : k ≡ place = omega arith in ap (λ n. fact_order (get_or facts n d) f) at ∙ same d);
    behind = λ k d le lt. sym (alike_right total-law (get_or facts place d) f (get_or facts k d) (same d)) ∙ falls place k d (omega arith) lt;
  }

  searchable : (k : ℕ) (d : Fact) → 0 ≤ k → k + 1 < length facts → is_lt (fact_order (get_or facts (k + 1) d) (get_or facts k d)) ≡ false
  searchable k d le lt = ap is_lt (falls k (k + 1) d (omega arith) lt)

  pub span_missing : (place : ℕ) → place ≤ length facts
      → IsBinarySearchResult {X = Fact} (λ g. fact_order g f) facts (Err place)
      → IsSpan facts f (record { from = place; to = place })
  span_missing place inside found =
      let parted : IsPartitionPoint {X = Fact} (λ g. fact_order g f ≡ Less) (λ g. fact_order g f ≡ Greater) facts
      place = found (searchable_from_sorted total-law (λ (g : Fact). g) facts f searchable) in
      record {
        ordered = omega arith;
        within = inside;
        before = λ k d lt. parted.0 k d (omega arith) lt;
        here = λ k d le lt. absurd (omega arith);
        behind = λ k d le lt. parted.1 k d le lt;
      }

  -- what is less than a fact below, or greater than one above

  pub last_below : (count : ℕ) (g : Fact) (r : Bool) → slice_get facts (count - 1) ≡ Some g → r ≡ is_lt (fact_order g f) → IsTrue r → AreBelow facts f count
  last_below count g r at is t = record {
    there = omega (arith, slice_get_within facts (count - 1) g at);
    each = λ k d lt. below k d (cases_lt k (count - 1)) lt;
  }
    where
      last : (d : Fact) → fact_order (get_or facts (count - 1) d) f ≡ Less
      last d = ap (λ h. fact_order h f) (get_or_from_slice_get facts (count - 1) g d at) ∙ is_less (fact_order g f) (sym is ∙ t)

      below : (k : ℕ) (d : Fact) → (k < count - 1) ⊎ (count - 1 ≤ k) → k < count → fact_order (get_or facts k d) f ≡ Less
      below k d (inl less) lt = total-law.trans (get_or facts k d) (get_or facts (count - 1) d) f
          (up.pairs k (count - 1) d less (slice_get_within facts (count - 1) g at)) (last d)
      below k d (inr past) lt = (let same : k ≡ count - 1 = omega (arith, past, lt) in ap (λ n. fact_order (get_or facts n d) f) same ∙ last d)

  pub first_above : (place : ℕ) (g : Fact) (r : Bool) → slice_get facts place ≡ Some g → r ≡ is_gt (fact_order g f) → IsTrue r → AreAbove facts f place
  first_above place g r at is t = record { there = omega (arith, slice_get_within facts place g at); each = λ k d le lt. above k d (cases_lt place k) le lt }
    where
      first : (d : Fact) → fact_order (get_or facts place d) f ≡ Greater
      first d = ap (λ h. fact_order h f) (get_or_from_slice_get facts place g d at) ∙ is_more (fact_order g f) (sym is ∙ t)

      before : (d : Fact) → fact_order f (get_or facts place d) ≡ Less
      before d = total-law.antisymm f (get_or facts place d) ∙ ap ordering_reverse (first d)

      above : (k : ℕ) (d : Fact) → (place < k) ⊎ (k ≤ place) → place ≤ k → k < length facts → fact_order (get_or facts k d) f ≡ Greater
      above k d (inl past) le lt =
          total-law.antisymm (get_or facts k d) f
          ∙ ap ordering_reverse (total-law.trans f (get_or facts place d) (get_or facts k d) (before d)
          (up.pairs place k d past lt))
      above k d (inr back) le lt = (let same : k ≡ place = omega (arith, back, le) in ap (λ n. fact_order (get_or facts n d) f) same ∙ first d)

pub rising_list : (facts mid seen : List Fact) → seen ≡ mid → mid ≡ facts → IsStrictlySortedBy fact_order facts → Rises seen
rising_list facts mid seen same are up = subst Rises (sym (same ∙ are))
    (record { pairs = λ i j d lt inside. Less-from_sorted fact_order facts i j d up lt inside })

pub none_below : (facts : List Fact) (f : Fact) (count : ℕ) → count ≡ 0 → AreBelow facts f count
none_below facts f count none = record { there = omega (arith, none); each = λ k d lt. absurd (omega (arith, none, lt)) }

pub none_above : (facts : List Fact) (f : Fact) (place : ℕ) → place ≡ length facts → AreAbove facts f place
none_above facts f place past = record { there = omega (arith, past); each = λ k d le lt. absurd (omega (arith, past, le, lt)) }

-- ---- a part of the list

pub before_above : (facts : List Fact) (f : Fact) (from to : ℕ) → AreBelow facts f from → AreAbove facts f to → from ≤ to
before_above facts f from to below above = elim (cases_lt to from) [
  | inl lt ↦ absurd (crossed lt)
  | inr le ↦ le
]
  where
    crossed : to < from → ⊥
    crossed lt =
        let less : fact_order (get_or facts to f) f ≡ Less = below.each to f lt in
        let more : fact_order (get_or facts to f) f ≡ Greater = above.each to f (omega arith) (let t = below.there in omega (arith, t, lt)) in
        cc

module _ (facts : List Fact) (f : Fact) (h : Span) (part : List Fact) (below : AreBelow facts f h.from)
    (above : AreAbove facts f h.to) (is : part ≡ slice_range facts h.from h.to) where
  pub ordered : h.from ≤ h.to
  ordered = before_above facts f h.from h.to below above

  long : length part ≡ h.to - h.from
  long = ap length is ∙ length-take-le (h.to - h.from) (drop h.from facts) (let w = above.there in omega (arith, length-drop h.from facts))

  at_part : (i : ℕ) (d : Fact) → i < h.to - h.from → get_or part i d ≡ get_or facts (h.from + i) d
  at_part i d lt = ap (λ l. get_or l i d) is ∙ get_or-take (h.to - h.from) (drop h.from facts) i d lt ∙ get_or-drop h.from facts i d

  -- the same from the whole list
  of_part : (k : ℕ) (d : Fact) → h.from ≤ k → k < h.to → get_or facts k d ≡ get_or part (k - h.from) d
  of_part k d le lt =
      let at : h.from + (k - h.from) ≡ k = omega (arith, le) in
      sym (at_part (k - h.from) d (omega (arith, le, lt)) ∙ ap (λ n. get_or facts n d) at)

  pub part_rises : Rises facts → Rises part
  part_rises up = record {
    pairs = λ i j d lt inside.
        (let few : j < h.to - h.from = omega (arith, inside, long) in
        let w = above.there in
        ap (λ g. fact_order g (get_or part j d)) (at_part i d (omega (arith, lt, few)))
        ∙ ap (fact_order (get_or facts (h.from + i) d)) (at_part j d few)
        ∙ up.pairs (h.from + i) (h.from + j) d (omega (arith, lt)) (omega (arith, few, w)));
  }

  pub part_fits : (s : Span) → IsSpan part f s → h.from + s.to ≤ length facts
  part_fits s span = (let w = above.there in let o = ordered in let t = span.within in omega (arith, w, o, t, long))

  pub span_within : (s r : Span) → IsSpan part f s → r ≡ shifted h.from s → IsSpan facts f r
  span_within s r span same = subst (IsSpan facts f) (sym same) (record {
    ordered = (let o = span.ordered in omega (arith, o));
    within = part_fits s span;
    before = λ k d lt. less k d lt (cases_lt k h.from);
    here = λ k d le lt.
        (let from : h.from ≤ k = omega (arith, le) in
        let under : k < h.to = (let w = span.within in let o = ordered in omega (arith, lt, w, o, long)) in
        ap (λ g. fact_order g f) (of_part k d from under) ∙ span.here (k - h.from) d (omega (arith, le)) (omega (arith, lt, from)));
    behind = λ k d le lt. more k d le lt (cases_lt k h.to);
  })
    where
      less : (k : ℕ) (d : Fact) → k < h.from + s.from → (k < h.from) ⊎ (h.from ≤ k) → fact_order (get_or facts k d) f ≡ Less
      less k d lt (inl low) = below.each k d low
      less k d lt (inr from) =
          let under : k < h.to = (let o = span.ordered in let w = span.within in let p = ordered in omega (arith, lt, o, w, p, long)) in
          ap (λ g. fact_order g f) (of_part k d from under) ∙ span.before (k - h.from) d (omega (arith, lt, from))

      more : (k : ℕ) (d : Fact) → h.from + s.to ≤ k → k < length facts → (k < h.to) ⊎ (h.to ≤ k) → fact_order (get_or facts k d) f ≡ Greater
      more k d le lt (inl under) =
          let from : h.from ≤ k = omega (arith, le) in
          ap (λ g. fact_order g f) (of_part k d from under) ∙ span.behind (k - h.from) d (omega (arith, le)) (omega (arith, under, from, long))
      more k d le lt (inr past) = above.each k d past lt

-- ---- whether a fact is there

pub has_exact : (facts : List Fact) (f : Fact) (s : Span) (r : Bool) → IsSpan facts f s → r ≡ nat_lt s.from s.to → IsTrue r ↔ Contains facts f
has_exact facts f s r span is = (
  λ t. (
    s.from,
    (let lt = ltb-true s.from s.to (sym is ∙ t) in let w = span.within in omega arith),
    order_same
        (get_or facts s.from f) f (span.here s.from f (le_itself s.from) (ltb-true s.from s.to (sym is ∙ t))),
  ),
  λ c. is ∙ lt-ltb s.from s.to (there c.0 c.1 c.2),
)
  where
    le_itself : (n : ℕ) → n ≤ n
    le_itself n = omega arith

    there : (k : ℕ) → k < length facts → get_or facts k f ≡ f → s.from < s.to
    there k inside same =
        let equal : fact_order (get_or facts k f) f ≡ Equal = ap (λ g. fact_order g f) same ∙ tied_itself total-law f in
        elim (cases_lt k s.from) [
          | inl lt ↦ absurd (let less = span.before k f lt in cc)
          | inr from ↦ elim (cases_lt k s.to) [
            | inl lt ↦ omega arith
            | inr past ↦ absurd (let more = span.behind k f past inside in cc)
          ]
        ]

-- ---- the facts of a slot

between_slot : (a b c v w : Ordering) → (ordering_then a (ordering_then b (ordering_then c v)) ≡ Less → ⊥)
    → (ordering_then a (ordering_then b (ordering_then c w)) ≡ Greater → ⊥) → (a ≡ Equal) × (b ≡ Equal) × (c ≡ Equal)
between_slot Less b c v w low high = absurd (low refl)
between_slot Greater b c v w low high = absurd (high refl)
between_slot Equal Less c v w low high = absurd (low refl)
between_slot Equal Greater c v w low high = absurd (high refl)
between_slot Equal Equal Less v w low high = absurd (low refl)
between_slot Equal Equal Greater v w low high = absurd (high refl)
between_slot Equal Equal Equal v w low high = (refl, refl, refl)

not_less : (v : Value) → values.ghosts.cmp v (Arg 0) ≡ Less → ⊥
not_less (Arg n) e = (let lt : n < 0 = ranked n 0 Less (sym e) in omega arith)
not_less (Const n) e = cc
not_less Any e = cc

not_greater : (v : Value) → values.ghosts.cmp v Any ≡ Greater → ⊥
not_greater (Arg n) e = cc
not_greater (Const n) e = cc
not_greater Any e = cc

module _ (facts : List Fact) (e p : ℕ) (s : Slot) (least greatest : Span)
    (low : IsSpan facts (fact e p s (Arg 0)) least) (high : IsSpan facts (fact e p s Any) greatest) where
  same_key : (v w : Value) → fact_order (fact e p s v) (fact e p s w) ≡ values.ghosts.cmp v w
  same_key v w =
      let entry = tied_itself nat_cmp_total e in
      let point = tied_itself nat_cmp_total p in
      let slot = tied_itself slot_laws.total-law s in
      λ i. ordering_then (entry i) (ordering_then (point i) (ordering_then (slot i) (values.ghosts.cmp v w)))

  past_least : (k : ℕ) (d : Fact) → least.from ≤ k → k < length facts → fact_order (get_or facts k d) (fact e p s (Arg 0)) ≡ Less → ⊥
  past_least k d le inside less = elim (cases_lt k least.to) [
    | inl lt ↦ (let equal = low.here k d le lt in cc)
    | inr past ↦ (let more = low.behind k d past inside in cc)
  ]

  upto_greatest : (k : ℕ) (d : Fact) → k < greatest.to → fact_order (get_or facts k d) (fact e p s Any) ≡ Greater → ⊥
  upto_greatest k d lt more = elim (cases_lt k greatest.from) [
    | inl before ↦ (let less = high.before k d before in cc)
    | inr from ↦ (let equal = high.here k d from lt in cc)
  ]

  own_fact : (k : ℕ) (d : Fact) → least.from ≤ k → k < greatest.to → get_or facts k d ≡ fact e p s (get_or facts k d).value
  own_fact k d le lt =
      let g : Fact = get_or facts k d in
      let inside : k < length facts = (let w = high.within in omega arith) in
      let same = between_slot (nat_cmp g.entry e) (nat_cmp g.point p) (slots.ghosts.cmp g.slot s)
      (values.ghosts.cmp g.value (Arg 0)) (values.ghosts.cmp g.value Any) (past_least k d le inside)
      (upto_greatest k d lt) in
      let entry = nat_same g.entry e same.0 in
      let point = nat_same g.point p same.1 in
      let slot = slot_same g.slot s same.2 in
      λ i. record { entry = entry i; point = point i; slot = slot i; value = g.value }

  -- each fact of the slot stands between the two
  inside_both : (v : Value) (k : ℕ) (d : Fact) → k < length facts → get_or facts k d ≡ fact e p s v → (least.from ≤ k) × (k < greatest.to)
  inside_both v k d inside is = (from_least, to_greatest)
    where
      from_least : least.from ≤ k
      from_least = elim (cases_lt k least.from) [
        | inl lt ↦ absurd (not_less v (sym (same_key v (Arg 0)) ∙ ap (λ g. fact_order g (fact e p s (Arg 0))) (sym is) ∙ low.before k d lt))
        | inr le ↦ le
      ]

      to_greatest : k < greatest.to
      to_greatest = elim (cases_lt k greatest.to) [
        | inl lt ↦ lt
        | inr past ↦ absurd (not_greater v (sym (same_key v Any) ∙ ap (λ g. fact_order g (fact e p s Any)) (sym is) ∙ high.behind k d past inside))
      ]

  pub rising_spans : least.from ≤ greatest.to
  rising_spans = elim (cases_lt greatest.to least.from) [
    | inl lt ↦ absurd (crossed lt)
    | inr le ↦ le
  ]
    where
      crossed : greatest.to < least.from → ⊥
      crossed lt =
          let d : Fact = fact e p s Any in
          let k : ℕ = greatest.to in
          let inside : k < length facts = (let w = low.within in let o = low.ordered in omega arith) in
          let less : fact_order (get_or facts k d) (fact e p s (Arg 0)) ≡ Less = low.before k d lt in
          let step : fact_order (fact e p s (Arg 0)) (fact e p s Any) ≡ Less = same_key (Arg 0) Any in
          let less_too : fact_order (get_or facts k d) (fact e p s Any) ≡ Less =
          total-law.trans (get_or facts k d) (fact e p s (Arg 0)) (fact e p s Any) less step in
          let more : fact_order (get_or facts k d) (fact e p s Any) ≡ Greater = high.behind k d (omega arith) inside in
          cc

  abbrev part : List Fact
  part = slice_range facts least.from greatest.to

  part_long : length part ≡ greatest.to - least.from
  part_long = length-take-le (greatest.to - least.from) (drop least.from facts) (let w = high.within in omega (arith, length-drop least.from facts))

  part_at : (i : ℕ) (d : Fact) → i < greatest.to - least.from → get_or part i d ≡ get_or facts (least.from + i) d
  part_at i d lt = get_or-take (greatest.to - least.from) (drop least.from facts) i d lt ∙ get_or-drop least.from facts i d

  pub slot_values : (list : List Value) → list ≡ map value_of part → AreValues (λ v. Contains facts (fact e p s v)) list
  slot_values list is = record { each = each_there; listed = all_listed }
    where
      each_there : (v : Value) → Contains list v → Contains facts (fact e p s v)
      each_there v c =
          let m : Contains (map value_of part) v = subst (λ l. Contains l v) is c in
          let d : Fact = fact e p s v in
          let lt : m.0 < length part = (let l = m.1 in omega (arith, length-map part value_of)) in
          let few : m.0 < greatest.to - least.from = omega (arith, part_long) in
          let k : ℕ = least.from + m.0 in
          let under : k < greatest.to = omega arith in
          let inside : k < length facts = (let w = high.within in omega arith) in
          let value : (get_or facts k d).value ≡ v = sym (get_or-map value_of part m.0 d v lt ∙ ap value_of (part_at m.0 d few)) ∙ m.2 in
          (k, inside, own_fact k d (omega arith) under ∙ ap (fact e p s) value)

      all_listed : (v : Value) → Contains facts (fact e p s v) → Contains list v
      all_listed v c =
          let d : Fact = fact e p s v in
          let k : ℕ = c.0 in
          let lt = c.1 in
          let both = inside_both v k d c.1 c.2 in
          let le = both.0 in
          let under = both.1 in
          let i : ℕ = k - least.from in
          let few : i < greatest.to - least.from = omega arith in
          let in_part : i < length part = omega (arith, part_long) in
          let at : least.from + i ≡ k = omega arith in
          let value : get_or (map value_of part) i v ≡ v = get_or-map value_of part i d v in_part
          ∙ ap value_of (part_at i d few ∙ ap (λ n. get_or facts n d) at ∙ c.2) in
          subst (λ l. Contains l v) (sym is) (i, omega (arith, length-map part value_of), value)

pub values_ok : {E : Type 0} (facts seen : List Fact) (e p : ℕ) (s : Slot) (least greatest : Span) (some : List Fact)
    (r : Result (List Value) E) → seen ≡ facts → IsSpan seen (fact e p s (Arg 0)) least
    → IsSpan seen (fact e p s Any) greatest
    → some ≡ slice_range seen least.from greatest.to → IfOk r (λ list. list ≡ map value_of some) → IfOk r (AreValues (λ v. Contains facts (fact e p s v)))
values_ok facts seen e p s least greatest some (Ok list) same low high are h = subst
    (λ l. AreValues (λ v. Contains l (fact e p s v)) list) same
    (slot_values seen e p s least greatest low high list (h ∙ ap (map value_of) are))
values_ok facts seen e p s least greatest some (Err x) same low high are h = h

pub reached_ok : (facts seen : List Fact) (e p : ℕ) (least greatest : Span) (r : Bool) → seen ≡ facts
    → IsSpan seen (fact e p Depth (Arg 0)) least → IsSpan seen (fact e p Depth Any) greatest
    → r ≡ nat_lt least.from greatest.to
    → IsTrue r ↔ Reached (Contains facts) e p
reached_ok facts seen e p least greatest r same low high is = subst (λ l. IsTrue r ↔ Reached (Contains l) e p) same (
  λ t.
      let lt : least.from < greatest.to = ltb-true least.from greatest.to (sym is ∙ t) in
      let d : Fact = fact e p Depth Any in
      let inside : least.from < length seen = (let w = high.within in omega arith) in
      let v : Value = (get_or seen least.from d).value in
      let own : get_or seen least.from d ≡ fact e p Depth v = own_fact seen e p Depth least greatest low high least.from d (omega arith) lt in
      (v, (least.from, inside, get_or_default seen least.from (fact e p Depth v) d inside ∙ own)),
  λ h.
      let c = h.1 in
      let both = inside_both seen e p Depth least greatest low high h.0 c.0 (fact e p Depth h.0) c.1 c.2 in
      let le = both.0 in
      let under = both.1 in
      is ∙ lt-ltb least.from greatest.to (omega arith),
)
