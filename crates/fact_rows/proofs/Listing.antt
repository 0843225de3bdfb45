-- Facts in their order: slot by slot, and of each slot by their numbers.
use Rattle.std.proofs.Common.{◌≡◌, inl, inr, ⊎_elim, ℕ, ◌+◌, ◌-◌, ◌<◌, ◌≤◌, List, [], ◌∷◌, ◌++◌}
use Rattle.std.proofs.Common.{get_or, map, Contains, refl, sym, subst, ap, ◌∙◌, arith}
use Rattle.std.specs.declared.cmp.Ordering.{Ordering}
use Rattle.std.specs.declared.cmp.Ordering.TheVariants.{Less, Equal, Greater}
use Rattle.std.specs.List.{dedup}
use Rattle.std.specs.List.Retain.{IsFiltered, DiffersFromLast}
use Rattle.std.specs.List.Sorted.{IsPermutation, IsSorted, IsStrictlySortedBy}
use Rattle.std.specs.Ordering.{nat_cmp, ordering_then}
use Rattle.std.specs.Prelude.{nat_lt, nat_eq, if◌then◌else◌}
use Rattle.std.proofs.lemmas.Bool.{cases_lt, cond-true, lt-ltb}
use Rattle.std.specs.Cmp.{unsigned_ties}
use Rattle.std.proofs.lemmas.Cmp.{nat_cmp_total, tied_itself}
use Rattle.std.proofs.lemmas.List.Elements.{All-contains, All-from_recursion, recursion_from_All}
use Rattle.std.proofs.lemmas.List.Elements.{Contains-append_cases, Contains-append_left}
use Rattle.std.proofs.lemmas.List.Elements.{Contains-append_right, Contains-get_or}
use Rattle.std.proofs.lemmas.List.Filters.{dedup_is}
use Rattle.std.proofs.lemmas.List.Kept.{Contains-dedup_nat, Contains-from_dedup}
use Rattle.std.proofs.lemmas.List.Kept.{IsStrictlySortedBy-dedup}
use Rattle.std.proofs.lemmas.List.Sorted.{Contains-permutation, IsPermutation-sym}
use Rattle.std.proofs.lemmas.Map.Keys.{sorted_head, sorted_tail}
use Rattle.plex_limits.specs.declared.limits.TheConstants.{MOST_VALUES}
use Rattle.plex_num.proofs.Members.{none_in, first_or_later, later_is}
use Rattle.plex_num.proofs.Numbers.{nat_same}
use Rattle.flow_points.specs.declared.fact.Slot.{Slot}
use Rattle.flow_points.specs.declared.fact.Slot.TheVariants.{Temp, Given, Answered, Depth, Awaits}
use Rattle.flow_points.specs.declared.fact.Value.{Value}
use Rattle.flow_points.specs.declared.fact.Fact.{Fact}
use Rattle.flow_points.specs.Facts.{fact}
use Rattle.flow_points.specs.contracts.fact.SlotOrd.TheImpl as slots
use Rattle.flow_points.specs.contracts.fact.SlotOrd.TheImpl.Laws as slot_laws
use Rattle.flow_points.specs.contracts.fact.ValueOrd.TheImpl as values
use Rattle.flow_points.specs.Orders.{fact_order}
use Rattle.fact_rows.specs.declared.keys.Key.{Key}
use Rattle.fact_rows.specs.declared.value.TheConstants.{ANY_NUMBER}
use Rattle.fact_rows.specs.Places.{Marks, numbers_at}
use Rattle.fact_rows.specs.Values.{numbered_value, value_in, numbers_of}
use Rattle.fact_rows.specs.Known.{BitRows, Knows, AreFacts}
use Rattle.fact_rows.specs.Numbers.{AreNumbers}
use Rattle.fact_rows.specs.Touched.{key_order, key, IsKept, facts_at, facts_of}
use Rattle.fact_rows.proofs.Valuing.{arg_is, const_is, any_is}
use Rattle.fact_rows.proofs.Holding.{from_map, to_map, rising_past, slot_below}

-- ---- lists that rise

module _ {X : Type 0} (cmp : X → X → Ordering) where
  pub sorted_none : IsStrictlySortedBy cmp []
  unfolding IsStrictlySortedBy
  sorted_none = tt

  pub sorted_cons : (x : X) (xs : List X) → ((y : X) → Contains xs y → cmp x y ≡ Less) → IsStrictlySortedBy cmp xs → IsStrictlySortedBy cmp (x ∷ xs)
  unfolding IsStrictlySortedBy
  sorted_cons x xs h up = (recursion_from_All (λ y. cmp x y ≡ Less) xs (λ k d lt. h (get_or xs k d) (Contains-get_or xs k d lt)), up)

  pub before_rest : (x : X) (xs : List X) → IsStrictlySortedBy cmp (x ∷ xs) → (y : X) → Contains xs y → cmp x y ≡ Less
  before_rest x xs up y c = All-contains (λ z. cmp x z ≡ Less) xs y (All-from_recursion (λ z. cmp x z ≡ Less) xs (sorted_head cmp x xs up)) c

  pub sorted_append : (xs ys : List X) → IsStrictlySortedBy cmp xs → IsStrictlySortedBy cmp ys
      → ((x y : X) → Contains xs x → Contains ys y → cmp x y ≡ Less) → IsStrictlySortedBy cmp (xs ++ ys)
  sorted_append [] ys up_x up_y h = up_y
  sorted_append (x ∷ xs) ys up_x up_y h =
      sorted_cons x (xs ++ ys)
      (λ y c. ⊎_elim (λ left. before_rest x xs up_x y left) (λ right. h x y (0, omega arith, refl) right) (Contains-append_cases xs ys y c))
      (sorted_append xs ys (sorted_tail cmp x xs up_x) up_y (λ u v c d. h u v (later_is x u xs c) d))

  pub sorted_map : (f : ℕ → X) (bound : ℕ) → ((a b : ℕ) → a < b → b < bound → cmp (f a) (f b) ≡ Less) → (ns : List ℕ)
      → IsStrictlySortedBy nat_cmp ns → ((n : ℕ) → Contains ns n → n < bound) → IsStrictlySortedBy cmp (map f ns)
  sorted_map f bound less [] up below = sorted_none
  sorted_map f bound less (n ∷ ns) up below =
      sorted_cons (f n) (map f ns)
      (λ y c. let there = from_map f ns y c in subst (λ z. cmp (f n) z ≡ Less) there.2
      (less n there.0 (rising_past n ns up there.0 there.1) (below there.0 (later_is n there.0 ns there.1))))
      (sorted_map f bound less ns (sorted_tail nat_cmp n ns up) (λ m c. below m (later_is n m ns c)))

-- ---- the order of facts

then_less : (a b c : Ordering) → ordering_then a b ≡ Less → ordering_then a (ordering_then b c) ≡ Less
then_less Less b c e = refl
then_less Equal Less c e = refl
then_less Equal Equal c e = absurd (cc)
then_less Equal Greater c e = absurd (cc)
then_less Greater b c e = absurd (cc)

fact_less_key : (e p q : ℕ) (s t : Slot) (v w : Value) → key_order (key p s) (key q t) ≡ Less → fact_order (fact e p s v) (fact e q t w) ≡ Less
fact_less_key e p q s t v w h =
    ap (λ o. ordering_then o (ordering_then (nat_cmp p q) (ordering_then (slots.ghosts.cmp s t) (values.ghosts.cmp v w)))) (tied_itself nat_cmp_total e)
    ∙ then_less (nat_cmp p q) (slots.ghosts.cmp s t) (values.ghosts.cmp v w) h

fact_less_value : (e p : ℕ) (s : Slot) (v w : Value) → values.ghosts.cmp v w ≡ Less → fact_order (fact e p s v) (fact e p s w) ≡ Less
fact_less_value e p s v w h =
    let entry = tied_itself nat_cmp_total e in
    let point = tied_itself nat_cmp_total p in
    let slot = tied_itself slot_laws.total-law s in
    λ i. ordering_then (entry i) (ordering_then (point i) (ordering_then (slot i) (h i)))

pub nat_less : (a b : ℕ) → a < b → nat_cmp a b ≡ Less
nat_less a b lt = cond-true (nat_lt a b) Less (if nat_eq a b then Equal else Greater) (lt-ltb a b lt)

numbered_less : (a b : ℕ) → a < b → b < ANY_NUMBER + 1 → values.ghosts.cmp (numbered_value a) (numbered_value b) ≡ Less
numbered_less a b lt upto =
    elim (cases_lt a MOST_VALUES) as (λ _. values.ghosts.cmp (numbered_value a) (numbered_value b) ≡ Less) [
      | inl arg ↦ elim (cases_lt b MOST_VALUES) as (λ _. values.ghosts.cmp (numbered_value a) (numbered_value b) ≡ Less) [
        | inl args ↦ (λ i. values.ghosts.cmp (arg_is a arg i) (arg_is b args i)) ∙ nat_less a b lt
        | inr past ↦ elim (cases_lt b ANY_NUMBER) as (λ _. values.ghosts.cmp (numbered_value a) (numbered_value b) ≡ Less) [
          | inl small ↦ (λ i. values.ghosts.cmp (arg_is a arg i) (const_is b past small i))
          | inr last ↦ (λ i. values.ghosts.cmp (arg_is a arg i) (any_is b last i))
        ]
      ]
      | inr const ↦ elim (cases_lt b ANY_NUMBER) as (λ _. values.ghosts.cmp (numbered_value a) (numbered_value b) ≡ Less) [
        | inl small ↦ (λ i. values.ghosts.cmp (const_is a const (below_last a b lt small) i)
            (const_is b (past_args a b const lt) small i)) ∙ nat_less (a - MOST_VALUES) (b - MOST_VALUES) (omega arith)
        | inr last ↦ (λ i. values.ghosts.cmp (const_is a const (before_last a b lt upto) i) (any_is b last i))
      ]
    ]
  where
    below_last : (a b : ℕ) → a < b → b < ANY_NUMBER → a < ANY_NUMBER
    below_last a b lt small = omega arith

    before_last : (a b : ℕ) → a < b → b < ANY_NUMBER + 1 → a < ANY_NUMBER
    before_last a b lt upto = omega arith

    past_args : (a b : ℕ) → MOST_VALUES ≤ a → a < b → MOST_VALUES ≤ b
    past_args a b le lt = omega arith

value_less : (s : Slot) (a b : ℕ) → a < b → b < numbers_of s → values.ghosts.cmp (value_in s a) (value_in s b) ≡ Less
value_less (Temp t) a b lt upto = numbered_less a b lt upto
value_less (Given k) a b lt upto = numbered_less a b lt upto
value_less (Answered k) a b lt upto = numbered_less a b lt upto
value_less Depth a b lt upto = numbered_less a b lt upto
value_less Awaits a b lt upto = nat_less a b lt

-- ---- the facts of slots

record IsListed (e : ℕ) (m : Marks) (ks : List Key) (f : Fact) : Type 0 where
  own : Key
  one : Contains ks own
  number : ℕ
  there : Contains (numbers_at m own.point own.slot) number
  is : fact e own.point own.slot (value_in own.slot number) ≡ f

listed_from : (e : ℕ) (m : Marks) (ks : List Key) (f : Fact) → Contains (facts_of e m ks) f → IsListed e m ks f
listed_from e m [] f c = absurd (none_in f c)
listed_from e m (k ∷ ks) f c =
    ⊎_elim
    (λ here. let there = from_map (λ n. fact e k.point k.slot (value_in k.slot n)) (numbers_at m k.point k.slot) f here in
    record { own = k; one = (0, omega arith, refl); number = there.0; there = there.1; is = there.2 })
    (λ later. let l = listed_from e m ks f later in record { own = l.own; one = later_is k l.own ks l.one; number = l.number; there = l.there; is = l.is })
    (Contains-append_cases (facts_at e k (numbers_at m k.point k.slot)) (facts_of e m ks) f c)

listed_to : (e : ℕ) (m : Marks) (ks : List Key) (k : Key) (n : ℕ) → Contains ks k
    → Contains (numbers_at m k.point k.slot) n → Contains (facts_of e m ks) (fact e k.point k.slot (value_in k.slot n))
listed_to e m [] k n c there = absurd (none_in k c)
listed_to e m (j ∷ ks) k n c there =
    ⊎_elim
    (λ (same : j ≡ k). Contains-append_left (facts_at e j (numbers_at m j.point j.slot)) (facts_of e m ks) (fact e k.point k.slot (value_in k.slot n))
    (subst (λ (h : Key). Contains (facts_at e h (numbers_at m h.point h.slot))
    (fact e k.point k.slot (value_in k.slot n))) (sym same)
    (to_map (λ i. fact e k.point k.slot (value_in k.slot i)) (numbers_at m k.point k.slot) n there)))
    (λ rest. Contains-append_right (facts_at e j (numbers_at m j.point j.slot)) (facts_of e m ks)
    (fact e k.point k.slot (value_in k.slot n)) (listed_to e m ks k n rest there))
    (first_or_later j k ks c)

module _ (e : ℕ) (m : Marks) (touched : List ℕ) (kept : IsKept m touched) where
  abbrev rows : BitRows
  rows = record { entry = e; marks = m }

  facts_rise : (ks : List Key) → IsStrictlySortedBy key_order ks → IsStrictlySortedBy fact_order (facts_of e m ks)
  facts_rise [] up = sorted_none fact_order
  facts_rise (k ∷ ks) up =
      let planed = slot_below m touched kept k.point k.slot in
      sorted_append fact_order (facts_at e k (numbers_at m k.point k.slot)) (facts_of e m ks)
      (sorted_map fact_order (λ n. fact e k.point k.slot (value_in k.slot n)) (numbers_of k.slot)
      (λ a b lt upto. fact_less_value e k.point k.slot (value_in k.slot a) (value_in k.slot b) (value_less k.slot a b lt upto))
      (numbers_at m k.point k.slot) planed.rising
      (λ n c. All-contains (λ i. i < numbers_of k.slot) (numbers_at m k.point k.slot) n planed.below c))
      (facts_rise ks (sorted_tail key_order k ks up))
      (λ f g c d.
      let here = from_map (λ n. fact e k.point k.slot (value_in k.slot n)) (numbers_at m k.point k.slot) f c in
      let later = listed_from e m ks g d in
      subst (λ (u : Fact). fact_order u g ≡ Less) here.2
      (subst (λ (u : Fact). fact_order (fact e k.point k.slot (value_in k.slot here.0)) u ≡ Less) later.is
      (fact_less_key e k.point later.own.point k.slot later.own.slot (value_in k.slot here.0) (value_in later.own.slot later.number)
      (before_rest key_order k ks up later.own later.one))))

  pub facts_exact : (P : Fact → Type 0) (ks : List Key) → IsStrictlySortedBy key_order ks
      → ((f : Fact) → P f → Knows rows f) → ((f : Fact) → Contains ks (key f.point f.slot) → Knows rows f → P f)
      → ((f : Fact) → P f → Contains ks (key f.point f.slot)) → AreFacts P (facts_of e m ks)
  facts_exact P ks up known is_one there = record { rising = facts_rise ks up; each = each_one; listed = all_listed }
    where
      each_one : (f : Fact) → Contains (facts_of e m ks) f → P f
      each_one f c =
          let l = listed_from e m ks f c in
          subst P l.is (is_one (fact e l.own.point l.own.slot (value_in l.own.slot l.number)) l.one
          (record {
            entry = refl;
            value = to_map (value_in l.own.slot) (numbers_at m l.own.point l.own.slot)
                l.number l.there;
          }))

      all_listed : (f : Fact) → P f → Contains (facts_of e m ks) f
      all_listed f h =
          let k = known f h in
          let number = from_map (value_in f.slot) (numbers_at m f.point f.slot) f.value k.value in
          let is : fact e f.point f.slot (value_in f.slot number.0)
          ≡ f = (λ i. record { entry = sym k.entry i; point = f.point; slot = f.slot; value = number.2 i }) in
          subst (Contains (facts_of e m ks)) is (listed_to e m ks (key f.point f.slot) number.0 (there f h) number.1)

-- ---- slots that are the same

pub slot_same : (s t : Slot) → slots.ghosts.cmp s t ≡ Equal → s ≡ t
slot_same (Temp a) (Temp b) e = ap Temp (nat_same a b e)
slot_same (Temp a) (Given b) e = absurd (cc)
slot_same (Temp a) (Answered b) e = absurd (cc)
slot_same (Temp a) Depth e = absurd (cc)
slot_same (Temp a) Awaits e = absurd (cc)
slot_same (Given a) (Temp b) e = absurd (cc)
slot_same (Given a) (Given b) e = ap Given (nat_same a b e)
slot_same (Given a) (Answered b) e = absurd (cc)
slot_same (Given a) Depth e = absurd (cc)
slot_same (Given a) Awaits e = absurd (cc)
slot_same (Answered a) (Temp b) e = absurd (cc)
slot_same (Answered a) (Given b) e = absurd (cc)
slot_same (Answered a) (Answered b) e = ap Answered (nat_same a b e)
slot_same (Answered a) Depth e = absurd (cc)
slot_same (Answered a) Awaits e = absurd (cc)
slot_same Depth (Temp b) e = absurd (cc)
slot_same Depth (Given b) e = absurd (cc)
slot_same Depth (Answered b) e = absurd (cc)
slot_same Depth Depth e = refl
slot_same Depth Awaits e = absurd (cc)
slot_same Awaits (Temp b) e = absurd (cc)
slot_same Awaits (Given b) e = absurd (cc)
slot_same Awaits (Answered b) e = absurd (cc)
slot_same Awaits Depth e = absurd (cc)
slot_same Awaits Awaits e = refl

-- ---- the points in order

pub points_in_order : (points copy sorted once : List ℕ) → copy ≡ points → IsPermutation copy sorted
    → IsSorted nat_cmp sorted → IsFiltered (DiffersFromLast nat_eq) [] sorted once → AreNumbers (Contains points) once
points_in_order points copy sorted once same moved up kept = record {
  rising = subst (IsStrictlySortedBy nat_cmp) (sym is) (IsStrictlySortedBy-dedup nat_cmp_total unsigned_ties sorted up);
  each = λ p c. subst (λ l. Contains l p) same
      (Contains-permutation sorted copy p (IsPermutation-sym copy sorted moved)
      (Contains-from_dedup nat_eq sorted p (subst (λ l. Contains l p) is c)));
  listed = λ p c. subst (λ l. Contains l p) (sym is)
      (Contains-dedup_nat sorted p (Contains-permutation copy sorted p moved (subst (λ l. Contains l p) (sym same) c)));
}
  where
    is : once ≡ dedup nat_eq sorted
    is = dedup_is nat_eq sorted once kept
