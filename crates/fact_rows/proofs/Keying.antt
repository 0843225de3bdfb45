-- The slots before points in order, and the facts of all of them.
use Rattle.std.proofs.Common.{◌≡◌, ⊎_elim, ℕ, ◌+◌, ◌<◌, ◌≤◌, List, [], ◌∷◌, ◌++◌, length, get_or}
use Rattle.std.proofs.Common.{drop, Contains, Option, Some, None, slice_get, Result, IfOk, Ok, Err}
use Rattle.std.proofs.Common.{refl, sym, subst, ap, ◌∙◌, arith, append-nil, append_assoc}
use Rattle.std.specs.declared.cmp.Ordering.TheVariants.{Less}
use Rattle.std.specs.List.{range_with_len}
use Rattle.std.specs.List.Sorted.{IsStrictlySortedBy}
use Rattle.std.specs.Ordering.{nat_cmp, ordering_then}
use Rattle.std.proofs.lemmas.Cmp.{nat_cmp_total, tied_itself}
use Rattle.std.proofs.lemmas.List.{get_or_default}
use Rattle.std.proofs.lemmas.List.Elements.{Contains-append_cases, Contains-append_left}
use Rattle.std.proofs.lemmas.List.Elements.{Contains-append_right}
use Rattle.std.proofs.lemmas.List.FromFn.{map-range_with_len_more}
use Rattle.std.proofs.lemmas.Map.Keys.{sorted_tail}
use Rattle.std.proofs.Math.ListN.{drop_of_length-le}
use Rattle.plex_num.proofs.Members.{none_in, first_or_later, later_is}
use Rattle.plex_num.proofs.Lists.{opens}
use Rattle.flow_points.specs.declared.fact.Slot.{Slot}
use Rattle.flow_points.specs.declared.fact.Slot.TheVariants as slot
use Rattle.flow_points.specs.declared.fact.Fact.{Fact}
use Rattle.flow_points.specs.contracts.fact.SlotOrd.TheImpl as slots
use Rattle.fact_rows.specs.declared.keys.Key.{Key}
use Rattle.fact_rows.specs.declared.keys.Numbered.{Numbered}
use Rattle.fact_rows.specs.declared.keys.Numbered.TheVariants.{Temp, Given, Answered}
use Rattle.fact_rows.specs.declared.place.Counts.{Counts}
use Rattle.fact_rows.specs.declared.place.Spot.{Spot}
use Rattle.fact_rows.specs.Numbers.{AreNumbers}
use Rattle.fact_rows.specs.Places.{Marks, HasPlace, numbers_at, spot_of}
use Rattle.fact_rows.specs.Known.{BitRows, Knows, KnowsAt, AreFacts, ArePointsOf}
use Rattle.fact_rows.specs.Values.{value_in}
use Rattle.fact_rows.specs.Touched.{key_order, key, IsKept, facts_at, facts_of, keys_at}
use Rattle.fact_rows.specs.Touched.{keys_before, keys_if, keys_of, numbered_keys, numbered_slot}
use Rattle.fact_rows.proofs.Numbering.{in_range, range_has, range_rises}
use Rattle.fact_rows.proofs.Laying.{numbers_by, slot_placed}
use Rattle.fact_rows.proofs.Holding.{from_map, rising_past, to_map}
use Rattle.fact_rows.proofs.Listing.{facts_exact, nat_less, sorted_append, sorted_cons, sorted_map}
use Rattle.fact_rows.proofs.Listing.{sorted_none}

-- ---- the slots before a point rise

-- the kinds of slots in their order
abbrev rank : Slot → ℕ
rank (slot.Temp t) = 0
rank (slot.Given k) = 1
rank (slot.Answered k) = 2
rank slot.Depth = 3
rank slot.Awaits = 4

abbrev kind_rank : Numbered → ℕ
kind_rank Temp = 0
kind_rank Given = 1
kind_rank Answered = 2

rank_of : (m : Numbered) (n : ℕ) → rank (numbered_slot m n) ≡ kind_rank m
rank_of Temp n = refl
rank_of Given n = refl
rank_of Answered n = refl

rank_less : (s t : Slot) → rank s < rank t → slots.ghosts.cmp s t ≡ Less
rank_less (slot.Temp a) (slot.Temp b) lt = absurd (omega arith)
rank_less (slot.Temp a) (slot.Given b) lt = refl
rank_less (slot.Temp a) (slot.Answered b) lt = refl
rank_less (slot.Temp a) slot.Depth lt = refl
rank_less (slot.Temp a) slot.Awaits lt = refl
rank_less (slot.Given a) (slot.Temp b) lt = absurd (omega arith)
rank_less (slot.Given a) (slot.Given b) lt = absurd (omega arith)
rank_less (slot.Given a) (slot.Answered b) lt = refl
rank_less (slot.Given a) slot.Depth lt = refl
rank_less (slot.Given a) slot.Awaits lt = refl
rank_less (slot.Answered a) (slot.Temp b) lt = absurd (omega arith)
rank_less (slot.Answered a) (slot.Given b) lt = absurd (omega arith)
rank_less (slot.Answered a) (slot.Answered b) lt = absurd (omega arith)
rank_less (slot.Answered a) slot.Depth lt = refl
rank_less (slot.Answered a) slot.Awaits lt = refl
rank_less slot.Depth (slot.Temp b) lt = absurd (omega arith)
rank_less slot.Depth (slot.Given b) lt = absurd (omega arith)
rank_less slot.Depth (slot.Answered b) lt = absurd (omega arith)
rank_less slot.Depth slot.Depth lt = absurd (omega arith)
rank_less slot.Depth slot.Awaits lt = refl
rank_less slot.Awaits (slot.Temp b) lt = absurd (omega arith)
rank_less slot.Awaits (slot.Given b) lt = absurd (omega arith)
rank_less slot.Awaits (slot.Answered b) lt = absurd (omega arith)
rank_less slot.Awaits slot.Depth lt = absurd (omega arith)
rank_less slot.Awaits slot.Awaits lt = absurd (omega arith)

slot_less : (m : Numbered) (a b : ℕ) → a < b → slots.ghosts.cmp (numbered_slot m a) (numbered_slot m b) ≡ Less
slot_less Temp a b lt = nat_less a b lt
slot_less Given a b lt = nat_less a b lt
slot_less Answered a b lt = nat_less a b lt

same_point : (j k : Key) → j.point ≡ k.point → slots.ghosts.cmp j.slot k.slot ≡ Less → key_order j k ≡ Less
same_point j k same less =
    ap (λ o. ordering_then o (slots.ghosts.cmp j.slot k.slot)) (ap (nat_cmp j.point) (sym same) ∙ tied_itself nat_cmp_total j.point) ∙ less

later_point : (j k : Key) → j.point < k.point → key_order j k ≡ Less
later_point j k lt = ap (λ o. ordering_then o (slots.ghosts.cmp j.slot k.slot)) (nat_less j.point k.point lt)

-- a slot before the point, of a kind that is not before this one
record IsFrom (p low : ℕ) (k : Key) : Type 0 where
  point : k.point ≡ p
  from : low ≤ rank k.slot

module _ (p : ℕ) where
  -- a slot of this kind before the point
  kind_of : (m : Numbered) (n : ℕ) (k : Key) → Contains (numbered_keys p m n) k → (k.point ≡ p) × (rank k.slot ≡ kind_rank m)
  kind_of m n k c =
      let there = from_map (λ i. key p (numbered_slot m i)) (range_with_len 0 n) k c in
      (sym (ap (λ (j : Key). j.point) there.2), sym (ap (λ (j : Key). rank j.slot) there.2) ∙ rank_of m there.0)

  kind_rises : (m : Numbered) (n : ℕ) → IsStrictlySortedBy key_order (numbered_keys p m n)
  kind_rises m n =
      sorted_map key_order (λ k. key p (numbered_slot m k)) n
      (λ a b lt upto. same_point (key p (numbered_slot m a)) (key p (numbered_slot m b)) refl (slot_less m a b lt))
      (range_with_len 0 n) (range_rises 0 n) (λ k c. let inside = (in_range 0 n k c).1 in omega arith)

  -- slots of a kind in front of slots of later kinds
  both_rise : (m : Numbered) (n low : ℕ) (rest : List Key) → kind_rank m < low
      → ((k : Key) → Contains rest k → IsFrom p low k) → IsStrictlySortedBy key_order rest
      → IsStrictlySortedBy key_order (numbered_keys p m n ++ rest)
  both_rise m n low rest lt all up =
      sorted_append key_order (numbered_keys p m n) rest (kind_rises m n) up
      (λ j k c d.
      let first = kind_of m n j c in
      let later = all k d in
      let own = first.1 in
      let from = later.from in
      same_point j k (first.0 ∙ sym later.point) (rank_less j.slot k.slot (omega (arith, own, from, lt))))

  both_from : (m : Numbered) (n low : ℕ) (rest : List Key) → kind_rank m < low
      → ((k : Key) → Contains rest k → IsFrom p low k) → (k : Key) → Contains (numbered_keys p m n ++ rest) k
      → IsFrom p (kind_rank m) k
  both_from m n low rest lt all k c =
      ⊎_elim
      (λ here. let own = kind_of m n k here in let is = own.1 in record { point = own.0; from = omega (arith, is) })
      (λ there. let later = all k there in let from = later.from in record { point = later.point; from = omega (arith, from, lt) })
      (Contains-append_cases (numbered_keys p m n) rest k c)

  abbrev last_keys : List Key
  last_keys = key p slot.Depth ∷ key p slot.Awaits ∷ []

  last_from : (k : Key) → Contains last_keys k → IsFrom p 3 k
  last_from k c =
      ⊎_elim
      (λ (is : key p slot.Depth ≡ k). subst (IsFrom p 3) is (record { point = refl; from = omega arith }))
      (λ rest. ⊎_elim (λ (is : key p slot.Awaits ≡ k). subst (IsFrom p 3) is
      (record { point = refl; from = omega arith })) (λ none. absurd (none_in k none))
      (first_or_later (key p slot.Awaits) k [] rest))
      (first_or_later (key p slot.Depth) k (key p slot.Awaits ∷ []) c)

  last_rise : IsStrictlySortedBy key_order last_keys
  last_rise =
      sorted_cons key_order (key p slot.Depth) (key p slot.Awaits ∷ [])
      (λ k c. ⊎_elim (λ (is : key p slot.Awaits ≡ k). subst (λ j. key_order (key p slot.Depth) j ≡ Less) is
      (same_point (key p slot.Depth) (key p slot.Awaits) refl refl)) (λ none. absurd (none_in k none))
      (first_or_later (key p slot.Awaits) k [] c))
      (sorted_cons key_order (key p slot.Awaits) [] (λ k none. absurd (none_in k none)) (sorted_none key_order))

  module _ (c : Counts) where
    abbrev answered_on : List Key
    answered_on = numbered_keys p Answered c.answered ++ last_keys

    abbrev given_on : List Key
    given_on = numbered_keys p Given c.given ++ answered_on

    answered_from : (k : Key) → Contains answered_on k → IsFrom p 2 k
    answered_from = both_from Answered c.answered 3 last_keys (omega arith) last_from

    given_from : (k : Key) → Contains given_on k → IsFrom p 1 k
    given_from = both_from Given c.given 2 answered_on (omega arith) answered_from

    at_from : (k : Key) → Contains (keys_at p c) k → IsFrom p 0 k
    at_from = both_from Temp c.temps 1 given_on (omega arith) given_from

    at_rise : IsStrictlySortedBy key_order (keys_at p c)
    at_rise =
        both_rise Temp c.temps 1 given_on (omega arith) given_from
        (both_rise Given c.given 2 answered_on (omega arith) answered_from (both_rise Answered c.answered 3 last_keys (omega arith) last_from last_rise))

    kind_has : (m : Numbered) (n k : ℕ) → k < n → Contains (numbered_keys p m n) (key p (numbered_slot m k))
    kind_has m n k lt = to_map (λ i. key p (numbered_slot m i)) (range_with_len 0 n) k (range_has 0 n k (omega arith) (omega arith))

    last_has : (k : Key) → Contains last_keys k → Contains (keys_at p c) k
    last_has k there =
        Contains-append_right (numbered_keys p Temp c.temps) given_on k
        (Contains-append_right (numbered_keys p Given c.given) answered_on k (Contains-append_right (numbered_keys p Answered c.answered) last_keys k there))

    at_has : (s : Slot) → HasPlace c s → Contains (keys_at p c) (key p s)
    at_has (slot.Temp t) lt = Contains-append_left (numbered_keys p Temp c.temps) given_on (key p (slot.Temp t)) (kind_has Temp c.temps t lt)
    at_has (slot.Given t) lt =
        Contains-append_right (numbered_keys p Temp c.temps) given_on (key p (slot.Given t))
        (Contains-append_left (numbered_keys p Given c.given) answered_on (key p (slot.Given t)) (kind_has Given c.given t lt))
    at_has (slot.Answered t) lt =
        Contains-append_right (numbered_keys p Temp c.temps) given_on (key p (slot.Answered t))
        (Contains-append_right (numbered_keys p Given c.given) answered_on (key p (slot.Answered t))
        (Contains-append_left (numbered_keys p Answered c.answered) last_keys (key p (slot.Answered t)) (kind_has Answered c.answered t lt)))
    at_has slot.Depth u = last_has (key p slot.Depth) (0, omega arith, refl)
    at_has slot.Awaits u = last_has (key p slot.Awaits) (1, omega arith, refl)

-- ---- the slots before points rise

before_rise : (p : ℕ) (o : Option Counts) → IsStrictlySortedBy key_order (keys_if p o)
before_rise p None = sorted_none key_order
before_rise p (Some c) = at_rise p c

before_at : (p : ℕ) (o : Option Counts) (k : Key) → Contains (keys_if p o) k → k.point ≡ p
before_at p None k c = absurd (none_in k c)
before_at p (Some counts) k c = (at_from p counts k c).point

of_points : (all : List Counts) (ps : List ℕ) (k : Key) → Contains (keys_of all ps) k → Contains ps k.point
of_points all [] k c = absurd (none_in k c)
of_points all (p ∷ ps) k c =
    ⊎_elim
    (λ here. (0, omega arith, sym (before_at p (slice_get all p) k here)))
    (λ there. later_is p k.point ps (of_points all ps k there))
    (Contains-append_cases (keys_before all p) (keys_of all ps) k c)

keys_rise : (all : List Counts) (ps : List ℕ) → IsStrictlySortedBy nat_cmp ps → IsStrictlySortedBy key_order (keys_of all ps)
keys_rise all [] up = sorted_none key_order
keys_rise all (p ∷ ps) up =
    sorted_append key_order (keys_before all p) (keys_of all ps) (before_rise p (slice_get all p)) (keys_rise all ps (sorted_tail nat_cmp p ps up))
    (λ j k c d.
    let at = before_at p (slice_get all p) j c in
    let past = rising_past p ps up k.point (of_points all ps k d) in
    later_point j k (omega (arith, at, past)))

keys_has : (all : List Counts) (ps : List ℕ) (p : ℕ) (k : Key) → Contains ps p → Contains (keys_before all p) k → Contains (keys_of all ps) k
keys_has all [] p k there own = absurd (none_in p there)
keys_has all (q ∷ ps) p k there own =
    ⊎_elim
    (λ (same : q ≡ p). Contains-append_left (keys_before all q) (keys_of all ps) k (subst (λ r. Contains (keys_before all r) k) (sym same) own))
    (λ later. Contains-append_right (keys_before all q) (keys_of all ps) k (keys_has all ps p k later own))
    (first_or_later q p ps there)

-- ---- the facts of all slots before points

-- a slot with a number stands before its point
key_before : (m : Marks) (p : ℕ) (s : Slot) (n : ℕ) → Contains (numbers_at m p s) n → Contains (keys_before m.slots p) (key p s)
key_before m p s n c = by (spot_of m.slots p s) refl
  where
    by : (o : Option Spot) → spot_of m.slots p s ≡ o → Contains (keys_before m.slots p) (key p s)
    by None none = absurd (none_in n (subst (λ l. Contains l n) (numbers_by m p s None none) c))
    by (Some spot) is = (let at = slot_placed m.slots p s spot is in subst (λ o. Contains (keys_if p o) (key p s))
        (sym at.there) (at_has p at.counts s at.slot))

module _ (e : ℕ) (m : Marks) (touched : List ℕ) (kept : IsKept m touched) where
  abbrev own_rows : BitRows
  own_rows = record { entry = e; marks = m }

  known_before : (f : Fact) → Knows own_rows f → Contains (keys_before m.slots f.point) (key f.point f.slot)
  known_before f known = (let there = from_map (value_in f.slot) (numbers_at m f.point f.slot) f.value known.value in
      key_before m f.point f.slot there.0 there.1)

  pub points_found : (ps : List ℕ) → AreNumbers (Contains touched) ps → ArePointsOf (Knows own_rows) ps
  points_found ps are = record { rising = are.rising; listed = there }
    where
      there : (f : Fact) → Knows own_rows f → Contains ps f.point
      there f known =
          ⊎_elim
          (λ none. let number = from_map (value_in f.slot) (numbers_at m f.point f.slot) f.value known.value in absurd
          (none_in number.0 (subst (λ l. Contains l number.0) none number.1)))
          (are.listed f.point)
          (kept.listed f.point f.slot)

  points_exact : (ps : List ℕ) → ArePointsOf (Knows own_rows) ps → AreFacts (Knows own_rows) (facts_of e m (keys_of m.slots ps))
  points_exact ps are = facts_exact e m touched kept (Knows own_rows) (keys_of m.slots ps)
      (keys_rise m.slots ps are.rising) (λ f known. known) (λ f c known. known) there
    where
      there : (f : Fact) → Knows own_rows f → Contains (keys_of m.slots ps) (key f.point f.slot)
      there f known = keys_has m.slots ps f.point (key f.point f.slot) (are.listed f known) (known_before f known)

  point_exact : (p : ℕ) → AreFacts (KnowsAt own_rows p) (facts_of e m (keys_before m.slots p))
  point_exact p =
      facts_exact e m touched kept (KnowsAt own_rows p) (keys_before m.slots p) (before_rise p (slice_get m.slots p)) (λ f k. k.1)
      (λ f c known. (before_at p (slice_get m.slots p) (key f.point f.slot) c, known))
      (λ f k. subst (λ q. Contains (keys_before m.slots q) (key f.point f.slot)) k.0 (known_before f k.1))

pub point_ok : (k : BitRows) (e p : ℕ) (m : Marks) (touched : List ℕ) (none facts : List Fact)
    → record { entry = e; marks = m } ≡ k → IsKept m touched → none ≡ []
    → facts ≡ none ++ facts_of e m (keys_before m.slots p) → AreFacts (KnowsAt k p) facts
point_ok k e p m touched none facts same kept empty is =
    subst (λ (rows : BitRows). AreFacts (KnowsAt rows p) facts) same
    (subst (AreFacts (KnowsAt (record { entry = e; marks = m }) p))
    (sym (is ∙ ap (λ l. l ++ facts_of e m (keys_before m.slots p)) empty)) (point_exact e m touched kept p))

pub points_ok : (k : BitRows) (e : ℕ) (m : Marks) (touched seen once : List ℕ) → record { entry = e; marks = m } ≡ k
    → IsKept m touched → seen ≡ touched → AreNumbers (Contains seen) once → ArePointsOf (Knows k) once
points_ok k e m touched seen once same kept are_touched are =
    subst (λ (rows : BitRows). ArePointsOf (Knows rows) once) same
    (points_found e m touched kept once (subst (λ l. AreNumbers (Contains l) once) are_touched are))

pub facts_ok : {E : Type 0} (k : BitRows) (e : ℕ) (m : Marks) (touched once points : List ℕ) (r : Result (List Fact) E)
    → record { entry = e; marks = m } ≡ k → IsKept m touched → ArePointsOf (Knows k) once → points ≡ once
    → IfOk r (λ facts. facts ≡ facts_of e m (keys_of m.slots points)) → IfOk r (AreFacts (Knows k))
facts_ok k e m touched once points (Ok facts) same kept are are_once h =
    let all : ArePointsOf (Knows (record { entry = e; marks = m })) points = subst
    (ArePointsOf (Knows (record { entry = e; marks = m }))) (sym are_once)
    (subst (λ (rows : BitRows). ArePointsOf (Knows rows) once) (sym same) are) in
    subst (λ (rows : BitRows). AreFacts (Knows rows) facts) same
    (subst (AreFacts (Knows (record { entry = e; marks = m }))) (sym h) (points_exact e m touched kept points all))
facts_ok k e m touched once points (Err x) same kept are are_once h = h

-- ---- the list of facts grows by a point

facts_both : (e : ℕ) (m : Marks) (js ks : List Key) → facts_of e m (js ++ ks) ≡ facts_of e m js ++ facts_of e m ks
facts_both e m [] ks = refl
facts_both e m (j ∷ js) ks =
    ap (λ l. facts_at e j (numbers_at m j.point j.slot) ++ l) (facts_both e m js ks)
    ∙ sym (append_assoc (facts_at e j (numbers_at m j.point j.slot)) (facts_of e m js) (facts_of e m ks))

-- the facts of slots, and behind them those of others
facts_on : (e : ℕ) (m : Marks) (js ks : List Key) (old mid new : List Fact) → mid ≡ old ++ facts_of e m js
    → new ≡ mid ++ facts_of e m ks → new ≡ old ++ facts_of e m (js ++ ks)
facts_on e m js ks old mid new first second =
    second ∙ ap (λ l. l ++ facts_of e m ks) first ∙ append_assoc old (facts_of e m js) (facts_of e m ks) ∙ ap (λ l. old ++ l) (sym (facts_both e m js ks))

pub none_pushed : (e p : ℕ) (m : Marks) (old : List Fact) → None ≡ slice_get m.slots p → old ≡ old ++ facts_of e m (keys_before m.slots p)
none_pushed e p m old none = sym (append-nil old) ∙ ap (λ o. old ++ facts_of e m (keys_if p o)) none

pub point_pushed : (e p : ℕ) (m : Marks) (c : Counts) (old new : List Fact) → Some c ≡ slice_get m.slots p
    → new ≡ old ++ facts_of e m (keys_at p c) → new ≡ old ++ facts_of e m (keys_before m.slots p)
point_pushed e p m c old new some is = is ∙ ap (λ o. old ++ facts_of e m (keys_if p o)) some

-- one slot more
slot_pushed : (e : ℕ) (m : Marks) (ks : List Key) (k own : Key) (old mid new : List Fact) → own ≡ k
    → mid ≡ old ++ facts_of e m ks → new ≡ mid ++ facts_at e own (numbers_at m own.point own.slot)
    → new ≡ old ++ facts_of e m (ks ++ k ∷ [])
slot_pushed e m ks k own old mid new same before is =
    facts_on e m ks (k ∷ []) old mid new before
    (is ∙ ap (λ (j : Key). mid ++ facts_at e j (numbers_at m j.point j.slot)) same
    ∙ ap (λ l. mid ++ l) (sym (append-nil (facts_at e k (numbers_at m k.point k.slot)))))

pub slots_pushed : (e p : ℕ) (m : Marks) (c : Counts) (dk ak : Key) (a b d f g h : List Fact)
    → b ≡ a ++ facts_of e m (numbered_keys p Temp c.temps) → d ≡ b ++ facts_of e m (numbered_keys p Given c.given)
    → f ≡ d ++ facts_of e m (numbered_keys p Answered c.answered)
    → dk ≡ key p slot.Depth → g ≡ f ++ facts_at e dk (numbers_at m dk.point dk.slot) → ak ≡ key p slot.Awaits
    → h ≡ g ++ facts_at e ak (numbers_at m ak.point ak.slot) → h ≡ a ++ facts_of e m (keys_at p c)
slots_pushed e p m c dk ak a b d f g h temps given answered depth_key depth awaits_key awaits =
    let first : g ≡ f ++ facts_of e m (key p slot.Depth ∷ []) = slot_pushed e m [] (key p slot.Depth) dk f f g depth_key (sym (append-nil f)) depth in
    let last : h ≡ f ++ facts_of e m (last_keys p) = slot_pushed e m (key p slot.Depth ∷ []) (key p slot.Awaits) ak f g h awaits_key first awaits in
    facts_on e m (numbered_keys p Temp c.temps) (given_on p c) a b h temps
    (facts_on e m (numbered_keys p Given c.given) (answered_on p c) b d h given
    (facts_on e m (numbered_keys p Answered c.answered) (last_keys p) d f h answered last))

-- a loop over numbers

pub numbered_begin : (e p : ℕ) (m : Marks) (kind : Numbered) (old : List Fact) → old ≡ old ++ facts_of e m (numbered_keys p kind 0)
numbered_begin e p m kind old = sym (append-nil old)

pub numbered_more : (e p : ℕ) (m : Marks) (kind : Numbered) (n : ℕ) (s : Slot) (own : Key) (old mid new : List Fact)
    → s ≡ numbered_slot kind n → own ≡ key p s → mid ≡ old ++ facts_of e m (numbered_keys p kind n)
    → new ≡ mid ++ facts_at e own (numbers_at m own.point own.slot) → new ≡ old ++ facts_of e m (numbered_keys p kind (n + 1))
numbered_more e p m kind n s own old mid new slot_is own_is before is =
    let from : 0 + n ≡ n = omega arith in
    slot_pushed e m (numbered_keys p kind n) (key p (numbered_slot kind n)) own old mid new (own_is ∙ ap (key p) slot_is) before is
    ∙ ap (λ l. old ++ facts_of e m l) (sym (map-range_with_len_more (λ k. key p (numbered_slot kind k)) 0 n n from))

pub numbered_end : (e p : ℕ) (m : Marks) (kind : Numbered) (n count : ℕ) (old now : List Fact) → n ≤ count → count ≤ n
    → now ≡ old ++ facts_of e m (numbered_keys p kind n) → now ≡ old ++ facts_of e m (numbered_keys p kind count)
numbered_end e p m kind n count old now low high is = (let all : n ≡ count = omega arith in is ∙ ap (λ k. old ++ facts_of e m (numbered_keys p kind k)) all)

-- a loop over points

pub points_more : (e : ℕ) (m : Marks) (ps : List ℕ) (i d : ℕ) (now new all : List Fact) → i < length ps
    → new ≡ now ++ facts_of e m (keys_before m.slots (get_or ps i d))
    → now ++ facts_of e m (keys_of m.slots (drop i ps)) ≡ all → new ++ facts_of e m (keys_of m.slots (drop (i + 1) ps)) ≡ all
points_more e m ps i d now new all lt to h =
    let p : ℕ = get_or ps i d in
    let is : p ≡ get_or ps i p = get_or_default ps i d p lt in
    let rest : List Key = keys_of m.slots (drop (i + 1) ps) in
    ap (λ l. l ++ facts_of e m rest) to
    ∙ append_assoc now (facts_of e m (keys_before m.slots p)) (facts_of e m rest)
    ∙ ap (λ l. now ++ l) (sym (facts_both e m (keys_before m.slots p) rest) ∙ sym (ap (λ l. facts_of e m (keys_of m.slots l)) (opens ps i p lt is)))
    ∙ h

pub points_end : (e : ℕ) (m : Marks) (ps : List ℕ) (i : ℕ) (now all : List Fact) → length ps ≤ i
    → now ++ facts_of e m (keys_of m.slots (drop i ps)) ≡ all → now ≡ all
points_end e m ps i now all past h = sym (append-nil now) ∙ sym (ap (λ l. now ++ facts_of e m (keys_of m.slots l)) (drop_of_length-le ps past)) ∙ h
