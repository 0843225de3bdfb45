-- What the numbers of all slots become, and what is known then.
use Rattle.std.proofs.Common.{◌≡◌, ◌⊎◌, inl, inr, ⊎_elim, ◌↔◌, ℕ, suc, ◌+◌, ◌-◌, ◌*◌, ◌<◌, ◌≤◌}
use Rattle.std.proofs.Common.{Bool, true, false, not, List, [], ◌∷◌, ◌++◌, slice_get, length}
use Rattle.std.proofs.Common.{get_or, set, map, Contains, Option, Some, None, Result, IfOk, Ok, Err}
use Rattle.std.proofs.Common.{refl, sym, subst, ap, ◌∙◌, arith, length-set, get_or-set_same}
use Rattle.std.proofs.Common.{get_or-set_other}
use Rattle.std.specs.Prelude.{nat_eq, IsTrue}
use Rattle.std.specs.declared.cmp.Ordering.TheVariants.{Less}
use Rattle.std.specs.Bool.{MatchBool}
use Rattle.std.specs.List.{All, sum_by}
use Rattle.std.specs.Option.{IsSome, is_some}
use Rattle.std.specs.List.Sorted.{IsStrictlySortedBy}
use Rattle.std.specs.Ordering.{nat_cmp}
use Rattle.std.proofs.lemmas.Bool.{cases_eq, cases_lt, eqb-true, true≢false}
use Rattle.std.proofs.lemmas.Cmp.{ranked}
use Rattle.std.proofs.lemmas.List.{get_or-map, get_or_past, length-map, set-get_or}
use Rattle.std.proofs.lemmas.Option.{slice_get_within, get_or_from_slice_get}
use Rattle.std.proofs.lemmas.List.Elements.{Contains-append_left, Contains-append_right}
use Rattle.std.proofs.lemmas.List.Elements.{All-contains, All-from_recursion, All-get_or, All-head}
use Rattle.std.proofs.lemmas.List.Elements.{All-nil, All-set, All-tail, All-weaker, Contains-get_or}
use Rattle.std.proofs.lemmas.List.Sums.{sum_by-cons, sum_by-set}
use Rattle.std.proofs.lemmas.Map.Keys.{sorted_head, sorted_tail}
use Rattle.plex_num.proofs.Members.{none_in}
use Rattle.flow_points.specs.declared.fact.Slot.{Slot}
use Rattle.flow_points.specs.declared.fact.Slot.TheVariants.{Depth}
use Rattle.flow_points.specs.declared.fact.Value.{Value}
use Rattle.flow_points.specs.declared.fact.Fact.{Fact}
use Rattle.flow_points.specs.Facts.{fact, Reached}
use Rattle.flow_table.specs.declared.row.Row.{Row}
use Rattle.flow_table.specs.Giving.{AreValues}
use Rattle.fact_rows.specs.declared.keys.Key.{Key}
use Rattle.fact_rows.specs.declared.place.Counts.{Counts}
use Rattle.fact_rows.specs.declared.place.Spot.{Spot}
use Rattle.fact_rows.specs.declared.place.Spot.TheVariants.{Plane, Awaited}
use Rattle.fact_rows.specs.declared.value.TheConstants.{ANY_NUMBER, AWAITED_NUMBERS}
use Rattle.fact_rows.specs.Numbers.{AreNumbers}
use Rattle.fact_rows.specs.Places.{Marks, at_spot, counts_of, spot_of, numbers_at}
use Rattle.fact_rows.specs.Values.{number_in, value_in, numbers_of}
use Rattle.fact_rows.specs.Known.{BitRows, Knows, Fits, KnowNothing, AddsFact, missing}
use Rattle.fact_rows.specs.Grids.{IsBlank, IsSetAt, SetsPlane, SetsAwaited, SetsAt}
use Rattle.fact_rows.specs.Touched.{ArePlaned, IsKept, IsTouched, facts_at, key}
use Rattle.fact_rows.proofs.Laying.{has_spot, numbers_by, spots_apart, plane_slot, await_slot}
use Rattle.fact_rows.proofs.Valuing.{value_back, number_same}

-- ---- lists

pub from_map : {A : Type 0} (f : ℕ → A) (ns : List ℕ) (y : A) → Contains (map f ns) y → (n : ℕ) × Contains ns n × (f n ≡ y)
from_map f ns y c =
    let lt : c.0 < length ns = (let l = c.1 in omega (arith, length-map ns f)) in
    (get_or ns c.0 0, Contains-get_or ns c.0 0 lt, sym (get_or-map f ns c.0 0 y lt) ∙ c.2)

pub to_map : {A : Type 0} (f : ℕ → A) (ns : List ℕ) (n : ℕ) → Contains ns n → Contains (map f ns) (f n)
to_map f ns n c = (let l = c.1 in (c.0, omega (arith, length-map ns f), get_or-map f ns c.0 n (f n) l ∙ ap f c.2))

pub each_all : (P : ℕ → Type 0) (ns : List ℕ) → ((n : ℕ) → Contains ns n → P n) → All P ns
each_all P ns h = λ k d lt. h (get_or ns k d) (Contains-get_or ns k d lt)

no_planed : (bound : ℕ) → ArePlaned bound []
unfolding IsStrictlySortedBy
no_planed bound = record { rising = tt; below = All-nil (λ n. n < bound) }

-- ---- how many numbers a plane can have

pub rising_past : (x : ℕ) (xs : List ℕ) → IsStrictlySortedBy nat_cmp (x ∷ xs) → (y : ℕ) → Contains xs y → x < y
rising_past x xs up y c =
    let less : nat_cmp x y ≡ Less = All-contains (λ z. nat_cmp x z ≡ Less) xs y
    (All-from_recursion (λ z. nat_cmp x z ≡ Less) xs (sorted_head nat_cmp x xs up)) c in
    ranked x y Less (sym less)

few_between : (xs : List ℕ) (a n : ℕ) → IsStrictlySortedBy nat_cmp xs → ((x : ℕ) → Contains xs x → (a ≤ x) × (x < a + n)) → length xs ≤ n
few_between [] a n up h = omega arith
few_between (x ∷ xs) a n up h =
    let here = h x (0, omega arith, refl) in
    let low = here.0 in
    let high = here.1 in
    let rest = few_between xs (a + 1) (n - 1) (sorted_tail nat_cmp x xs up) (λ y c.
    let inside = h y (let l = c.1 in (suc c.0, omega arith, c.2)) in
    let over = rising_past x xs up y c in
    let upto = inside.1 in
    (omega arith, omega arith)) in
    omega arith

plane_few : (bound : ℕ) (ns : List ℕ) → ArePlaned bound ns → length ns ≤ bound
plane_few bound ns p = few_between ns 0 bound p.rising (λ n c. (omega arith, (let b = All-contains (λ m. m < bound) ns n p.below c in omega arith)))

pub sums_few : (bound : ℕ) (planes : List (List ℕ)) → All (ArePlaned bound) planes → sum_by length planes ≤ bound * length planes
sums_few bound [] all = omega arith
sums_few bound (ns ∷ planes) all =
    let here = plane_few bound ns (All-head (ArePlaned bound) ns planes all) in
    let rest = sums_few bound planes (All-tail (ArePlaned bound) ns planes all) in
    let whole : bound * length (ns ∷ planes) ≡ bound + bound * length planes = grind arith in
    omega (arith, sum_by-cons length ns planes)

-- ---- one number more

abbrev pub counted : Marks → ℕ
counted m = sum_by length m.planes + sum_by length m.awaits

-- a number more before a point and slot, and everything else as it was
pub record IsMore (m : Marks) (p : ℕ) (s : Slot) (n : ℕ) (added : Bool) (new : Marks) : Type 0 where
  pub slots : new.slots ≡ m.slots
  pub numbers : AreNumbers (λ k. (k ≡ n) ⊎ Contains (numbers_at m p s) k) (numbers_at new p s)
  pub others : (q : ℕ) (t : Slot) → ((q ≡ p) × (t ≡ s)) ⊎ (numbers_at new q t ≡ numbers_at m q t)
  pub fresh : IsTrue added ↔ (Contains (numbers_at m p s) n → ⊥)
  pub planes_long : length new.planes ≡ length m.planes
  pub awaits_long : length new.awaits ≡ length m.awaits
  pub planes : All (ArePlaned (ANY_NUMBER + 1)) new.planes
  pub awaits : All (ArePlaned AWAITED_NUMBERS) new.awaits
  pub one : MatchBool added (counted new ≡ counted m + 1) (new ≡ m)

planed_more : (bound n : ℕ) (old list : List ℕ) → n < bound → ArePlaned bound old → AreNumbers (λ k. (k ≡ n) ⊎ Contains old k) list → ArePlaned bound list
planed_more bound n old list lt was are = record {
  rising = are.rising;
  below = each_all (λ k. k < bound) list (λ k c. ⊎_elim (λ same. omega arith) (λ there. All-contains (λ j. j < bound) old k was.below there) (are.each k c));
}

set_sum : (rows : List (List ℕ)) (i n : ℕ) (added : Bool) (new : List (List ℕ)) → IsSetAt rows i n added new
    → MatchBool added (sum_by length new ≡ sum_by length rows + 1) (new ≡ rows)
set_sum rows i n added new h = by added h.counted
  where
    old : List ℕ
    old = get_or rows i []

    by : (added : Bool) → MatchBool added (length h.list ≡ length old + 1) (h.list ≡ old)
        → MatchBool added (sum_by length new ≡ sum_by length rows + 1) (new ≡ rows)
    by true more = omega (arith, ap (sum_by length) h.is, sum_by-set length rows i h.list [] h.within)
    by false same = h.is ∙ ap (set rows i) same ∙ set-get_or rows i []

pub plane_more : (m : Marks) (p : ℕ) (s : Slot) (n : ℕ) (added : Bool) (i : ℕ) (new : Marks) → spot_of m.slots p s ≡ Some (Plane i) → n < numbers_of s
    → All (ArePlaned (ANY_NUMBER + 1)) m.planes → All (ArePlaned AWAITED_NUMBERS) m.awaits → SetsPlane m n added i new → IsMore m p s n added new
plane_more m p s n added i new spot lt planes awaits h = record {
  slots = h.slots;
  numbers = subst (λ l. AreNumbers (λ k. (k ≡ n) ⊎ Contains l k) (numbers_at new p s)) (sym was)
      (subst (AreNumbers (λ k. (k ≡ n) ⊎ Contains old k)) (sym here) h.planes.numbers);
  others = λ q t. other q t (spot_of m.slots q t) refl;
  fresh = subst (λ l. IsTrue added ↔ (Contains l n → ⊥)) (sym was) h.planes.fresh;
  planes_long = ap length h.planes.is ∙ length-set m.planes i h.planes.list;
  awaits_long = ap length h.awaits;
  planes = subst (All (ArePlaned (ANY_NUMBER + 1))) (sym h.planes.is) (All-set (ArePlaned (ANY_NUMBER + 1)) m.planes i h.planes.list
      (planed_more (ANY_NUMBER + 1) n old h.planes.list (subst (λ b. n < b) (plane_slot m.slots p s i spot) lt)
      (All-get_or (ArePlaned (ANY_NUMBER + 1)) m.planes i [] h.planes.within planes) h.planes.numbers) planes);
  awaits = subst (All (ArePlaned AWAITED_NUMBERS)) (sym h.awaits) awaits;
  one = by added (set_sum m.planes i n added new.planes h.planes);
}
  where
    old : List ℕ
    old = get_or m.planes i []

    was : numbers_at m p s ≡ old
    was = numbers_by m p s (Some (Plane i)) spot

    spot_new : (q : ℕ) (t : Slot) (o : Option Spot) → spot_of m.slots q t ≡ o → numbers_at new q t ≡ at_spot new o
    spot_new q t o e = numbers_by new q t o (ap (λ k. spot_of k q t) h.slots ∙ e)

    here : numbers_at new p s ≡ h.planes.list
    here = spot_new p s (Some (Plane i)) spot ∙ ap (λ r. get_or r i []) h.planes.is ∙ get_or-set_same m.planes i h.planes.list [] h.planes.within

    other : (q : ℕ) (t : Slot) (o : Option Spot) → spot_of m.slots q t ≡ o → ((q ≡ p) × (t ≡ s)) ⊎ (numbers_at new q t ≡ numbers_at m q t)
    other q t None e = inr (spot_new q t None e ∙ sym (numbers_by m q t None e))
    other q t (Some (Awaited j)) e = inr (spot_new q t (Some (Awaited j)) e ∙ ap (λ r. get_or r j []) h.awaits ∙ sym (numbers_by m q t (Some (Awaited j)) e))
    other q t (Some (Plane j)) e = elim (cases_eq j i) [
      | inl same ↦ inl (spots_apart m.slots q p t s (Plane i) (e ∙ ap (λ k. Some (Plane k)) same) spot)
      | inr apart ↦ inr (spot_new q t (Some (Plane j)) e ∙ ap (λ r. get_or r j []) h.planes.is
          ∙ get_or-set_other m.planes i j h.planes.list [] apart ∙ sym (numbers_by m q t (Some (Plane j)) e))
    ]

    by : (added : Bool) → MatchBool added (sum_by length new.planes ≡ sum_by length m.planes + 1)
        (new.planes ≡ m.planes) → MatchBool added (counted new ≡ counted m + 1) (new ≡ m)
    by true more = omega (arith, ap (sum_by length) h.awaits)
    by false same = λ j. record { slots = h.slots j; planes = same j; awaits = h.awaits j }

pub await_more : (m : Marks) (p : ℕ) (s : Slot) (n : ℕ) (added : Bool) (i : ℕ) (new : Marks) → spot_of m.slots p s ≡ Some (Awaited i) → n < numbers_of s
    → All (ArePlaned (ANY_NUMBER + 1)) m.planes → All (ArePlaned AWAITED_NUMBERS) m.awaits → SetsAwaited m n added i new → IsMore m p s n added new
await_more m p s n added i new spot lt planes awaits h = record {
  slots = h.slots;
  numbers = subst (λ l. AreNumbers (λ k. (k ≡ n) ⊎ Contains l k) (numbers_at new p s)) (sym was)
      (subst (AreNumbers (λ k. (k ≡ n) ⊎ Contains old k)) (sym here) h.awaits.numbers);
  others = λ q t. other q t (spot_of m.slots q t) refl;
  fresh = subst (λ l. IsTrue added ↔ (Contains l n → ⊥)) (sym was) h.awaits.fresh;
  planes_long = ap length h.planes;
  awaits_long = ap length h.awaits.is ∙ length-set m.awaits i h.awaits.list;
  planes = subst (All (ArePlaned (ANY_NUMBER + 1))) (sym h.planes) planes;
  awaits = subst (All (ArePlaned AWAITED_NUMBERS)) (sym h.awaits.is) (All-set (ArePlaned AWAITED_NUMBERS) m.awaits i h.awaits.list
      (planed_more AWAITED_NUMBERS n old h.awaits.list (subst (λ b. n < b) (await_slot m.slots p s i spot) lt)
      (All-get_or (ArePlaned AWAITED_NUMBERS) m.awaits i [] h.awaits.within awaits) h.awaits.numbers) awaits);
  one = by added (set_sum m.awaits i n added new.awaits h.awaits);
}
  where
    old : List ℕ
    old = get_or m.awaits i []

    was : numbers_at m p s ≡ old
    was = numbers_by m p s (Some (Awaited i)) spot

    spot_new : (q : ℕ) (t : Slot) (o : Option Spot) → spot_of m.slots q t ≡ o → numbers_at new q t ≡ at_spot new o
    spot_new q t o e = numbers_by new q t o (ap (λ k. spot_of k q t) h.slots ∙ e)

    here : numbers_at new p s ≡ h.awaits.list
    here = spot_new p s (Some (Awaited i)) spot ∙ ap (λ r. get_or r i []) h.awaits.is ∙ get_or-set_same m.awaits i h.awaits.list [] h.awaits.within

    other : (q : ℕ) (t : Slot) (o : Option Spot) → spot_of m.slots q t ≡ o → ((q ≡ p) × (t ≡ s)) ⊎ (numbers_at new q t ≡ numbers_at m q t)
    other q t None e = inr (spot_new q t None e ∙ sym (numbers_by m q t None e))
    other q t (Some (Plane j)) e = inr (spot_new q t (Some (Plane j)) e ∙ ap (λ r. get_or r j []) h.planes ∙ sym (numbers_by m q t (Some (Plane j)) e))
    other q t (Some (Awaited j)) e = elim (cases_eq j i) [
      | inl same ↦ inl (spots_apart m.slots q p t s (Awaited i) (e ∙ ap (λ k. Some (Awaited k)) same) spot)
      | inr apart ↦ inr (spot_new q t (Some (Awaited j)) e ∙ ap (λ r. get_or r j []) h.awaits.is
          ∙ get_or-set_other m.awaits i j h.awaits.list [] apart ∙ sym (numbers_by m q t (Some (Awaited j)) e))
    ]

    by : (added : Bool) → MatchBool added (sum_by length new.awaits ≡ sum_by length m.awaits + 1)
        (new.awaits ≡ m.awaits) → MatchBool added (counted new ≡ counted m + 1) (new ≡ m)
    by true more = omega (arith, ap (sum_by length) h.planes)
    by false same = λ j. record { slots = h.slots j; planes = h.planes j; awaits = same j }

pub spot_more : (m : Marks) (p : ℕ) (s : Slot) (n : ℕ) (added : Bool) (new : Marks) → n < numbers_of s
    → All (ArePlaned (ANY_NUMBER + 1)) m.planes → All (ArePlaned AWAITED_NUMBERS) m.awaits
    → SetsAt m n added (spot_of m.slots p s) new → IsMore m p s n added new
spot_more m p s n added new lt planes awaits h = by (spot_of m.slots p s) refl h
  where
    by : (o : Option Spot) → spot_of m.slots p s ≡ o → SetsAt m n added o new → IsMore m p s n added new
    by None e none = absurd none
    by (Some (Plane i)) e sets = plane_more m p s n added i new e lt planes awaits sets
    by (Some (Awaited i)) e sets = await_more m p s n added i new e lt planes awaits sets

-- ---- what is kept then

-- the point of a slot that gets a number is listed
pub listed_now : (m : Marks) (p : ℕ) (s : Slot) (spot : Spot) (touched later : List ℕ) → spot_of m.slots p s ≡ Some spot
    → IsKept m touched → IsTouched m spot touched p later → Contains later p
listed_now m p s spot touched later is kept touch =
    ⊎_elim (λ none. touch.there (sym (numbers_by m p s (Some spot) is) ∙ none)) (λ there. touch.still p there) (kept.listed p s)

pub still_kept : (m : Marks) (p : ℕ) (s : Slot) (n : ℕ) (added : Bool) (new : Marks) (touched later : List ℕ) (spot : Spot)
    → spot_of m.slots p s ≡ Some spot → IsKept m touched → IsMore m p s n added new → IsTouched m spot touched p later → IsKept new later
still_kept m p s n added new touched later spot is kept more touch = record {
  planes = more.planes;
  awaits = more.awaits;
  listed = λ q t. ⊎_elim
      (λ (same : (q ≡ p) × (t ≡ s)). inr (subst (Contains later) (sym same.0) here))
      (λ as_was. ⊎_elim (λ none. inl (as_was ∙ none)) (λ there. inr (touch.still q there)) (kept.listed q t))
      (more.others q t);
}
  where
    here : Contains later p
    here = listed_now m p s spot touched later is kept touch

pub planed_at : (bound : ℕ) (rows : List (List ℕ)) (i : ℕ) → All (ArePlaned bound) rows → ArePlaned bound (get_or rows i [])
planed_at bound rows i all = elim (cases_lt i (length rows)) [
  | inl lt ↦ All-get_or (ArePlaned bound) rows i [] lt all
  | inr past ↦ subst (ArePlaned bound) (sym (get_or_past rows i [] past)) (no_planed bound)
]

-- each number of a slot is one of its plane
pub slot_below : (m : Marks) (touched : List ℕ) → IsKept m touched → (p : ℕ) (s : Slot) → ArePlaned (numbers_of s) (numbers_at m p s)
slot_below m touched kept p s = by (spot_of m.slots p s) refl
  where
    by : (o : Option Spot) → spot_of m.slots p s ≡ o → ArePlaned (numbers_of s) (numbers_at m p s)
    by None e = subst (ArePlaned (numbers_of s)) (sym (numbers_by m p s None e)) (no_planed (numbers_of s))
    by (Some (Plane i)) e = subst (ArePlaned (numbers_of s)) (sym (numbers_by m p s (Some (Plane i)) e))
        (subst (λ b. ArePlaned b (get_or m.planes i [])) (sym (plane_slot m.slots p s i e))
        (planed_at (ANY_NUMBER + 1) m.planes i kept.planes))
    by (Some (Awaited i)) e = subst (ArePlaned (numbers_of s)) (sym (numbers_by m p s (Some (Awaited i)) e))
        (subst (λ b. ArePlaned b (get_or m.awaits i [])) (sym (await_slot m.slots p s i e))
        (planed_at AWAITED_NUMBERS m.awaits i kept.awaits))

-- ---- what is known then

module _ (e : ℕ) (m : Marks) (f : Fact) (added : Bool) (new : Marks) (touched : List ℕ) (of_entry : f.entry ≡ e)
    (fits : Fits m.slots f) (kept : IsKept m touched)
    (more : IsMore m f.point f.slot (number_in f.slot f.value) added new) where
  abbrev before : BitRows
  before = record { entry = e; marks = m }

  abbrev after : BitRows
  after = record { entry = e; marks = new }

  value_is : value_in f.slot (number_in f.slot f.value) ≡ f.value
  value_is = value_back f.slot f.value fits.number

  this_known : Knows after f
  this_known = record {
    entry = of_entry;
    value = subst (Contains (map (value_in f.slot) (numbers_at new f.point f.slot))) value_is
        (to_map (value_in f.slot) (numbers_at new f.point f.slot) (number_in f.slot f.value)
        (more.numbers.listed (number_in f.slot f.value) (inl refl)));
  }

  still_known : (g : Fact) → Knows before g → Knows after g
  still_known g k = ⊎_elim
      (λ (same : (g.point ≡ f.point) × (g.slot ≡ f.slot)).
      let there = from_map (value_in g.slot) (numbers_at m g.point g.slot) g.value k.value in
      let old : Contains (numbers_at m f.point f.slot) there.0 = subst (λ t. Contains (numbers_at m f.point t) there.0)
      same.1 (subst (λ q. Contains (numbers_at m q g.slot) there.0) same.0 there.1) in
      let now : Contains (numbers_at new f.point f.slot) there.0 = more.numbers.listed there.0 (inr old) in
      let now_there : Contains (numbers_at new g.point g.slot) there.0 = subst
      (λ q. Contains (numbers_at new q g.slot) there.0) (sym same.0)
      (subst (λ t. Contains (numbers_at new f.point t) there.0) (sym same.1) now) in
      record {
        entry = k.entry;
        value = subst (Contains (map (value_in g.slot) (numbers_at new g.point g.slot))) there.2
            (to_map (value_in g.slot) (numbers_at new g.point g.slot) there.0 now_there);
      })
      (λ as_was. record { entry = k.entry; value = subst (λ l. Contains (map (value_in g.slot) l) g.value) (sym as_was) k.value })
      (more.others g.point g.slot)

  known_before : (g : Fact) → Knows after g → (g ≡ f) ⊎ Knows before g
  known_before g k = ⊎_elim
      (λ (same : (g.point ≡ f.point) × (g.slot ≡ f.slot)).
      let there = from_map (value_in g.slot) (numbers_at new g.point g.slot) g.value k.value in
      let now : Contains (numbers_at new f.point f.slot) there.0 = subst
      (λ t. Contains (numbers_at new f.point t) there.0) same.1
      (subst (λ q. Contains (numbers_at new q g.slot) there.0) same.0 there.1) in
      ⊎_elim
      (λ own.
      let value : g.value ≡ f.value = sym there.2 ∙ ap (λ t. value_in t there.0) same.1 ∙ ap (value_in f.slot) own ∙ value_is in
      let entry : g.entry ≡ f.entry = k.entry ∙ sym of_entry in
      inl (λ i. record { entry = entry i; point = same.0 i; slot = same.1 i; value = value i }))
      (λ old.
      let old_there : Contains (numbers_at m g.point g.slot) there.0 = subst
      (λ q. Contains (numbers_at m q g.slot) there.0) (sym same.0)
      (subst (λ t. Contains (numbers_at m f.point t) there.0) (sym same.1) old) in
      inr (record {
        entry = k.entry;
        value = subst (Contains (map (value_in g.slot) (numbers_at m g.point g.slot)))
            there.2 (to_map (value_in g.slot) (numbers_at m g.point g.slot) there.0 old_there);
      }))
      (more.numbers.each there.0 now))
      (λ as_was. inr (record { entry = k.entry; value = subst (λ l. Contains (map (value_in g.slot) l) g.value) as_was k.value }))
      (more.others g.point g.slot)

  pub fact_added : AddsFact f before after
  fact_added = record {
    entry = refl;
    slots = more.slots;
    knows = λ g. (known_before g, λ w. ⊎_elim (λ same. subst (Knows after) (sym same) this_known) (still_known g) w);
  }

  pub fact_new : IsTrue added ↔ (Knows before f → ⊥)
  fact_new = (
    λ t k.
        let there = from_map (value_in f.slot) (numbers_at m f.point f.slot) f.value k.value in
        let below : there.0 < numbers_of f.slot = All-contains (λ n. n < numbers_of f.slot)
        (numbers_at m f.point f.slot) there.0 (slot_below m touched kept f.point f.slot).below there.1 in
        let same : there.0 ≡ number_in f.slot f.value = sym (number_same f.slot there.0 below) ∙ ap (number_in f.slot) there.2 in
        more.fresh.0 t (subst (Contains (numbers_at m f.point f.slot)) same there.1),
    λ apart. more.fresh.1 (λ c. apart (record {
      entry = of_entry;
      value = subst (Contains (map (value_in f.slot) (numbers_at m f.point f.slot))) value_is
          (to_map (value_in f.slot) (numbers_at m f.point f.slot) (number_in f.slot f.value) c);
    })),
  )

  pub fact_counted : MatchBool added (missing after + 1 ≡ missing before) (after ≡ before)
  unfolding missing
  fact_counted = by added more.one
    where
      by : (added : Bool) → MatchBool added (counted new ≡ counted m + 1) (new ≡ m) → MatchBool added (missing after + 1 ≡ missing before) (after ≡ before)
      by true one =
          let few_planes = sums_few (ANY_NUMBER + 1) new.planes more.planes in
          let few_awaits = sums_few AWAITED_NUMBERS new.awaits more.awaits in
          let planes = more.planes_long in
          let awaits = more.awaits_long in
          omega arith
      by false same = λ i. record { entry = e; marks = same i }

-- what a call that adds a fact leaves
pub record IsAdded (f : Fact) (old new : BitRows) (added : Bool) : Type 0 where
  pub adds : AddsFact f old new
  pub fresh : IsTrue added ↔ (Knows old f → ⊥)
  pub one : MatchBool added (missing new + 1 ≡ missing old) (new ≡ old)

pub rows_added : (k : BitRows) (e : ℕ) (m new : Marks) (f : Fact) (n : ℕ) (added : Bool) (touched : List ℕ)
    → record { entry = e; marks = m } ≡ k → f.entry ≡ k.entry → Fits k.marks.slots f → IsKept m touched → n ≡ number_in f.slot f.value → n < numbers_of f.slot
    → (spot : Spot) → spot_of m.slots f.point f.slot ≡ Some spot → SetsAt m n added (Some spot) new → IsAdded f k (record { entry = e; marks = new }) added
rows_added k e m new f n added touched same of_entry fits kept is lt spot found sets =
    let own_entry : f.entry ≡ e = of_entry ∙ sym (ap (λ (r : BitRows). r.entry) same) in
    let own_fits : Fits m.slots f = subst (λ (r : BitRows). Fits r.marks.slots f) (sym same) fits in
    let more : IsMore m f.point f.slot (number_in f.slot f.value) added new = subst
    (λ i. IsMore m f.point f.slot i added new) is
    (spot_more m f.point f.slot n added new lt kept.planes kept.awaits
    (subst (λ o. SetsAt m n added o new) (sym found) sets)) in
    subst (λ (r : BitRows). IsAdded f r (record { entry = e; marks = new }) added) same (record {
      adds = fact_added e m f added new touched own_entry own_fits kept more;
      fresh = fact_new e m f added new touched own_entry own_fits kept more;
      one = fact_counted e m f added new touched own_entry own_fits kept more;
    })

pub rows_kept : (m new : Marks) (p : ℕ) (s : Slot) (n : ℕ) (added : Bool) (touched later : List ℕ) (spot : Spot)
    → spot_of m.slots p s ≡ Some spot → IsKept m touched → n < numbers_of s → SetsAt m n added (Some spot) new
    → IsTouched m spot touched p later → IsKept new later
rows_kept m new p s n added touched later spot is kept lt sets touch =
    still_kept m p s n added new touched later spot is kept
    (spot_more m p s n added new lt kept.planes kept.awaits (subst (λ o. SetsAt m n added o new) (sym is) sets))
    touch

-- a point that is noted
pub not_blank : (m : Marks) (spot : Spot) (touched : List ℕ) (b : Bool) (p : ℕ)
    → (IsTrue b ↔ (at_spot m (Some spot) ≡ [])) → b ≡ false → IsTouched m spot touched p touched
not_blank m spot touched b p tells off = record { still = λ q c. c; there = λ none. absurd (true≢false (sym (tells.1 none) ∙ off)) }

pub noted_last : (m : Marks) (spot : Spot) (touched : List ℕ) (p : ℕ) → Contains touched p → IsTouched m spot touched p touched
noted_last m spot touched p there = record { still = λ q c. c; there = λ none. there }

pub noted_more : (m : Marks) (spot : Spot) (touched later : List ℕ) (p : ℕ) → later ≡ touched ++ p ∷ [] → IsTouched m spot touched p later
noted_more m spot touched later p is = record {
  still = λ q c. subst (λ l. Contains l q) (sym is) (Contains-append_left touched (p ∷ []) q c);
  there = λ none. subst (λ l. Contains l p) (sym is) (Contains-append_right touched (p ∷ []) p (0, omega arith, refl));
}

pub last_there : (points : List ℕ) (last p : ℕ) → Some last ≡ slice_get points (length points - 1) → IsTrue (nat_eq last p) → Contains points p
last_there points last p is same =
    subst (Contains points) (eqb-true last p same) (
      length points - 1,
      slice_get_within points (length points - 1) last (sym is),
      get_or_from_slice_get points
          (length points - 1) last last (sym is),
    )

-- where a point is listed and no number comes to it, all is kept
pub touch_kept : (m : Marks) (touched later : List ℕ) (spot : Spot) (q : ℕ) → IsKept m touched → IsTouched m spot touched q later → IsKept m later
touch_kept m touched later spot q kept touch = record {
  planes = kept.planes;
  awaits = kept.awaits;
  listed = λ p s. ⊎_elim inl (λ there. inr (touch.still p there)) (kept.listed p s);
}

pub has_place : (k : BitRows) (e : ℕ) (m : Marks) (f : Fact) → record { entry = e; marks = m } ≡ k
    → Fits k.marks.slots f → IsSome (spot_of m.slots f.point f.slot)
has_place k e m f same fits =
    let own : Fits m.slots f = subst (λ (r : BitRows). Fits r.marks.slots f) (sym same) fits in
    ap is_some (has_spot m.slots f.point own.counts f.slot own.there own.slot).1

-- ---- nothing is known

pub known_nothing : (e : ℕ) (m : Marks) (slots : List Counts) → m.slots ≡ slots
    → ((p : ℕ) (s : Slot) → numbers_at m p s ≡ []) → KnowNothing e slots (record { entry = e; marks = m })
known_nothing e m slots same none = record {
  of_entry = refl;
  of_slots = same;
  nothing = λ f k. none_in f.value (subst (λ l. Contains (map (value_in f.slot) l) f.value) (none f.point f.slot) k.value);
}

blank_row : (rows : List (List ℕ)) (i : ℕ) → All (λ ns. ns ≡ []) rows → get_or rows i [] ≡ []
blank_row rows i all = elim (cases_lt i (length rows)) [ inl lt ↦ All-get_or (λ ns. ns ≡ []) rows i [] lt all | inr past ↦ get_or_past rows i [] past ]

blank_numbers : (slots : List Counts) (m : Marks) → IsBlank slots m → (p : ℕ) (s : Slot) → numbers_at m p s ≡ []
blank_numbers slots m b p s = by (spot_of m.slots p s) refl
  where
    by : (o : Option Spot) → spot_of m.slots p s ≡ o → numbers_at m p s ≡ []
    by None e = numbers_by m p s None e
    by (Some (Plane i)) e = numbers_by m p s (Some (Plane i)) e ∙ blank_row m.planes i b.planes
    by (Some (Awaited i)) e = numbers_by m p s (Some (Awaited i)) e ∙ blank_row m.awaits i b.awaits

pub blank_knows : (e : ℕ) (slots : List Counts) (m : Marks) → IsBlank slots m → KnowNothing e slots (record { entry = e; marks = m })
blank_knows e slots m b = known_nothing e m slots b.slots_so (blank_numbers slots m b)

blank_planed : (bound : ℕ) (rows : List (List ℕ)) → All (λ ns. ns ≡ []) rows → All (ArePlaned bound) rows
blank_planed bound rows all = All-weaker (λ ns. ns ≡ []) (ArePlaned bound) (λ ns none. subst (ArePlaned bound) (sym none) (no_planed bound)) rows all

pub blank_kept : (slots : List Counts) (m : Marks) → IsBlank slots m → IsKept m []
blank_kept slots m b = record {
  planes = blank_planed (ANY_NUMBER + 1) m.planes b.planes;
  awaits = blank_planed AWAITED_NUMBERS m.awaits b.awaits;
  listed = λ p s. inl (blank_numbers slots m b p s);
}

-- ---- what is read

pub values_known : (k : BitRows) (e p : ℕ) (s : Slot) (values : List Value) → e ≡ k.entry
    → values ≡ map (value_in s) (numbers_at k.marks p s) → AreValues (λ v. Knows k (fact e p s v)) values
values_known k e p s values of_entry are = record {
  each = λ v c. record { entry = of_entry; value = subst (λ l. Contains l v) are c };
  listed = λ v known. subst (λ l. Contains l v) (sym are) known.value;
}

pub no_values : (k : BitRows) (e p : ℕ) (s : Slot) (values : List Value) → (e ≡ k.entry → ⊥) → values ≡ [] → AreValues (λ v. Knows k (fact e p s v)) values
no_values k e p s values apart none = record {
  each = λ v c. absurd (none_in v (subst (λ l. Contains l v) none c));
  listed = λ v known. absurd (apart known.entry);
}

pub not_reached : (k : BitRows) (e p : ℕ) → (e ≡ k.entry → ⊥) → IsTrue false ↔ Reached (Knows k) e p
not_reached k e p apart = (λ t. absurd (true≢false (sym t)), λ r. absurd (apart r.1.entry))

pub reached_known : (k : BitRows) (e p : ℕ) (empty : Bool) → e ≡ k.entry
    → (IsTrue empty ↔ (numbers_at k.marks p Depth ≡ [])) → IsTrue (not empty) ↔ Reached (Knows k) e p
reached_known k e p empty of_entry is = (
  λ t. some (numbers_at k.marks p Depth) refl
      (λ none. true≢false (sym t ∙ ap not (is.1 none))),
  λ r. filled empty refl r,
)
  where
    some : (ns : List ℕ) → numbers_at k.marks p Depth ≡ ns → (ns ≡ [] → ⊥) → Reached (Knows k) e p
    some [] here apart = absurd (apart refl)
    some (n ∷ ns) here apart = (
      value_in Depth n,
      record {
        entry = of_entry;
        value = subst (λ l. Contains (map (value_in Depth) l) (value_in Depth n)) (sym here)
            (0, omega arith, refl);
      },
    )

    filled : (b : Bool) → empty ≡ b → Reached (Knows k) e p → not b ≡ true
    filled false e r = refl
    filled true e r = absurd (none_in r.0 (subst (λ l. Contains (map (value_in Depth) l) r.0) (is.0 e) r.1.value))

values_shown : (e : ℕ) (k : Key) (ns : List ℕ) → map (λ (f : Fact). f.value) (facts_at e k ns) ≡ map (value_in k.slot) ns
values_shown e k [] = refl
values_shown e k (n ∷ ns) = ap (λ l. value_in k.slot n ∷ l) (values_shown e k ns)

pub values_ok : {E : Type 0} (k : BitRows) (e m_entry p : ℕ) (m : Marks) (s : Slot) (facts : List Fact)
    (r : Result (List Value) E) → record { entry = m_entry; marks = m } ≡ k → e ≡ m_entry
    → facts ≡ facts_at e (key p s) (numbers_at m p s)
    → IfOk r (λ values. values ≡ map (λ (f : Fact). f.value) facts) → IfOk r (AreValues (λ v. Knows k (fact e p s v)))
values_ok k e m_entry p m s facts (Ok values) same of_entry are h =
    subst (λ (r : BitRows). AreValues (λ v. Knows r (fact e p s v)) values) same
    (values_known (record { entry = m_entry; marks = m }) e p s values of_entry
    (h ∙ ap (map (λ (f : Fact). f.value)) are ∙ values_shown e (key p s) (numbers_at m p s)))
values_ok k e m_entry p m s facts (Err x) same of_entry are h = h

pub none_ok : (k : BitRows) (e m_entry p : ℕ) (m : Marks) (s : Slot) (values : List Value)
    → record { entry = m_entry; marks = m } ≡ k → (e ≡ m_entry → ⊥) → values ≡ []
    → AreValues (λ v. Knows k (fact e p s v)) values
none_ok k e m_entry p m s values same apart none = subst
    (λ (r : BitRows). AreValues (λ v. Knows r (fact e p s v)) values) same
    (no_values (record { entry = m_entry; marks = m }) e p s values apart none)

pub reached_ok : (k : BitRows) (e m_entry p : ℕ) (m : Marks) (empty : Bool) → record { entry = m_entry; marks = m } ≡ k
    → e ≡ m_entry → (IsTrue empty ↔ (numbers_at m p Depth ≡ [])) → IsTrue (not empty) ↔ Reached (Knows k) e p
reached_ok k e m_entry p m empty same of_entry h = subst (λ (r : BitRows). IsTrue (not empty) ↔ Reached (Knows r) e p)
    same (reached_known (record { entry = m_entry; marks = m }) e p empty of_entry h)

pub unreached_ok : (k : BitRows) (e m_entry p : ℕ) (m : Marks) → record { entry = m_entry; marks = m } ≡ k
    → (e ≡ m_entry → ⊥) → IsTrue false ↔ Reached (Knows k) e p
unreached_ok k e m_entry p m same apart = subst (λ (r : BitRows). IsTrue false ↔ Reached (Knows r) e p) same
    (not_reached (record { entry = m_entry; marks = m }) e p apart)

pub begun_ok : (k : BitRows) (e m_entry : ℕ) (m new : Marks) → record { entry = m_entry; marks = m } ≡ k
    → IsBlank m.slots new → KnowNothing e k.marks.slots (record { entry = e; marks = new })
begun_ok k e m_entry m new same blank = subst (λ (r : BitRows). KnowNothing e r.marks.slots
    (record { entry = e; marks = new })) same (blank_knows e m.slots new blank)

pub begun_kept : (slots : List Counts) (new : Marks) (touched : List ℕ) → IsBlank slots new → touched ≡ [] → IsKept new touched
begun_kept slots new touched blank none = subst (IsKept new) (sym none) (blank_kept slots new blank)

pub new_ok : (slots : List Counts) (rows seen : List Row) (m : Marks) → slots ≡ map counts_of rows → seen ≡ rows
    → IsBlank (map counts_of seen) m → KnowNothing 0 slots (record { entry = 0; marks = m })
new_ok slots rows seen m are same blank = blank_knows 0 slots m (subst (λ l. IsBlank l m) (ap (map counts_of) same ∙ sym are) blank)
