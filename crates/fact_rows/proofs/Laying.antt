-- Where the planes of each point begin, and that each spot is that of one slot.
use Rattle.std.proofs.Common.{◌≡◌, inl, inr, ℕ, zero, suc, ◌+◌, ◌-◌, ◌*◌, ◌^◌, ◌<◌, ◌≤◌, Bool, true}
use Rattle.std.proofs.Common.{false, List, [], ◌∷◌, ◌++◌, length, get_or, take, map, Option, Some}
use Rattle.std.proofs.Common.{None, Result, IfOk, OnErr, Ok, Err, slice_get, refl, sym, subst, ap}
use Rattle.std.proofs.Common.{◌∙◌, arith, length-append}
use Rattle.std.specs.Prelude.{nat_lt, if◌then◌else◌, slice_index_or}
use Rattle.std.proofs.lemmas.Bool.{cases_lt, cases_order, cond-true, cond-false, lt-ltb, le-ltb}
use Rattle.std.proofs.lemmas.Bool.{ltb-true}
use Rattle.std.proofs.lemmas.List.{get_or_default, take_more, map-append, length-map}
use Rattle.std.proofs.lemmas.List.{get_or_append_left, get_or-append_right, take_all}
use Rattle.std.proofs.lemmas.Option.{none-some, same_Some, slice_get_within}
use Rattle.flow_points.specs.declared.fact.Slot.{Slot}
use Rattle.flow_points.specs.declared.fact.Slot.TheVariants.{Temp, Given, Answered, Depth, Awaits}
use Rattle.flow_table.specs.declared.row.Row.{Row}
use Rattle.fact_rows.specs.declared.place.Counts.{Counts}
use Rattle.fact_rows.specs.declared.place.Spot.{Spot}
use Rattle.fact_rows.specs.declared.place.Spot.TheVariants.{Plane, Awaited}
use Rattle.fact_rows.specs.declared.value.TheConstants.{ANY_NUMBER, AWAITED_NUMBERS}
use Rattle.fact_rows.specs.Known.{HasSpot}
use Rattle.fact_rows.specs.Values.{is_awaits, numbers_of, room_at}
use Rattle.fact_rows.specs.Places.{Marks, HasPlace, at_spot, counts_of, numbers_at, size_of}
use Rattle.fact_rows.specs.Places.{start_of, spot_below, spot_in, spot_if, spot_of, HoldsSlot}
use Rattle.plex_num.specs.declared.seq.Memory.{Memory}
use Rattle.std.specs.List.{All}
use Rattle.fact_rows.specs.declared.planes.Planes.{Planes}
use Rattle.fact_rows.specs.Spread.{row_of, KeepsRow}
use Rattle.fact_rows.specs.Grids.{IsLaid, IsGrid, IsBlank, IsJoinedAt, IsSetAt, JoinsAt, SetsAt}

-- ---- where the planes of a point begin

pub start_before : (slots : List Counts) (p q : ℕ) (c : Counts) → p < q → slice_get slots p ≡ Some c → start_of slots p + size_of c ≤ start_of slots q
unfolding start_of
start_before [] p q c lt there = absurd (none-some c there)
start_before (d ∷ slots) zero zero c lt there = absurd (omega arith)
start_before (d ∷ slots) zero (suc q) c lt there = (let same : size_of d ≡ size_of c = ap size_of (same_Some d c there) in omega arith)
start_before (d ∷ slots) (suc p) zero c lt there = absurd (omega arith)
start_before (d ∷ slots) (suc p) (suc q) c lt there = (let rest = start_before slots p q c (omega arith) there in omega arith)

start_push : (slots : List Counts) (c : Counts) (p : ℕ) → p ≤ length slots → start_of (slots ++ c ∷ []) p ≡ start_of slots p
unfolding start_of
start_push [] c zero le = refl
start_push [] c (suc p) le = absurd (omega arith)
start_push (d ∷ slots) c zero le = refl
start_push (d ∷ slots) c (suc p) le = ap (λ n. size_of d + n) (start_push slots c p (omega arith))

start_last : (slots : List Counts) (c : Counts) → start_of (slots ++ c ∷ []) (suc (length slots)) ≡ start_of slots (length slots) + size_of c
unfolding start_of
start_last [] c = omega arith
start_last (d ∷ slots) c = (let rest = start_last slots c in omega arith)

-- ---- the spot of a slot

below_is : (first k count i : ℕ) → spot_below first k count ≡ Some (Plane i) → (k < count) × (i ≡ first + k)
below_is first k count i e = by (nat_lt k count) refl e
  where
    by : (t : Bool) → nat_lt k count ≡ t → (if t then Some (Plane (first + k)) else None) ≡ Some (Plane i) → (k < count) × (i ≡ first + k)
    by true lt same = (ltb-true k count lt, cc)
    by false lt none = absurd (none-some (Plane i) none)

below_no : (first k count i : ℕ) → spot_below first k count ≡ Some (Awaited i) → ⊥
below_no first k count i e = by (nat_lt k count) e
  where
    by : (t : Bool) → (if t then Some (Plane (first + k)) else None) ≡ Some (Awaited i) → ⊥
    by true same = cc
    by false none = none-some (Awaited i) none

-- the slot of the k-th plane of a point
abbrev slot_back : Counts → ℕ → Slot
slot_back c k =
    (if nat_lt k c.temps then Temp k
    else (if nat_lt k (c.temps + c.given) then Given (k - c.temps)
    else (if nat_lt k (c.temps + c.given + c.answered) then Answered (k - (c.temps + c.given)) else Depth)))

abbrev after_temps : Counts → ℕ → Slot
after_temps c k =
    (if nat_lt k (c.temps + c.given) then Given (k - c.temps)
    else (if nat_lt k (c.temps + c.given + c.answered) then Answered (k - (c.temps + c.given)) else Depth))

abbrev after_given : Counts → ℕ → Slot
after_given c k = (if nat_lt k (c.temps + c.given + c.answered) then Answered (k - (c.temps + c.given)) else Depth)

-- the plane is one of a point whose planes begin so, and it is that of the slot
record IsPlaneOf (start : ℕ) (c : Counts) (s : Slot) (i : ℕ) : Type 0 where
  low : start ≤ i
  high : i < start + size_of c
  back : slot_back c (i - start) ≡ s

plane_of : (start p : ℕ) (c : Counts) (s : Slot) (i : ℕ) → spot_in start p c s ≡ Some (Plane i) → IsPlaneOf start c s i
plane_of start p c (Temp t) i e =
    let b = below_is start t c.temps i e in
    let lt = b.0 in
    let is = b.1 in
    let k : i - start ≡ t = omega arith in
    record {
      low = omega arith;
      high = omega arith;
      back = ap (slot_back c) k ∙ cond-true (nat_lt t c.temps) (Temp t) (after_temps c t) (lt-ltb t c.temps lt);
    }
plane_of start p c (Given t) i e =
    let b = below_is (start + c.temps) t c.given i e in
    let lt = b.0 in
    let is = b.1 in
    let n : ℕ = c.temps + t in
    let k : i - start ≡ n = omega arith in
    let own : n - c.temps ≡ t = omega arith in
    record {
      low = omega arith;
      high = omega arith;
      back = ap (slot_back c) k
          ∙ cond-false (nat_lt n c.temps) (Temp n) (after_temps c n) (le-ltb n c.temps (omega arith))
          ∙ cond-true (nat_lt n (c.temps + c.given)) (Given (n - c.temps)) (after_given c n) (lt-ltb n (c.temps + c.given) (omega arith))
          ∙ ap Given own;
    }
plane_of start p c (Answered t) i e =
    let b = below_is (start + c.temps + c.given) t c.answered i e in
    let lt = b.0 in
    let is = b.1 in
    let n : ℕ = c.temps + c.given + t in
    let k : i - start ≡ n = omega arith in
    let own : n - (c.temps + c.given) ≡ t = omega arith in
    record {
      low = omega arith;
      high = omega arith;
      back = ap (slot_back c) k
          ∙ cond-false (nat_lt n c.temps) (Temp n) (after_temps c n) (le-ltb n c.temps (omega arith))
          ∙ cond-false (nat_lt n (c.temps + c.given)) (Given (n - c.temps)) (after_given c n) (le-ltb n (c.temps + c.given) (omega arith))
          ∙ cond-true (nat_lt n (c.temps + c.given + c.answered)) (Answered (n - (c.temps + c.given))) Depth
          (lt-ltb n (c.temps + c.given + c.answered) (omega arith))
          ∙ ap Answered own;
    }
plane_of start p c Depth i e =
    let is : start + c.temps + c.given + c.answered ≡ i = cc in
    let n : ℕ = c.temps + c.given + c.answered in
    let k : i - start ≡ n = omega arith in
    record {
      low = omega arith;
      high = omega arith;
      back = ap (slot_back c) k
          ∙ cond-false (nat_lt n c.temps) (Temp n) (after_temps c n) (le-ltb n c.temps (omega arith))
          ∙ cond-false (nat_lt n (c.temps + c.given)) (Given (n - c.temps)) (after_given c n) (le-ltb n (c.temps + c.given) (omega arith))
          ∙ cond-false (nat_lt n (c.temps + c.given + c.answered)) (Answered (n - (c.temps + c.given))) Depth
          (le-ltb n (c.temps + c.given + c.answered) (omega arith));
    }
plane_of start p c Awaits i e = absurd (cc)

await_of : (start p : ℕ) (c : Counts) (s : Slot) (i : ℕ) → spot_in start p c s ≡ Some (Awaited i) → (s ≡ Awaits) × (p ≡ i)
await_of start p c (Temp t) i e = absurd (below_no start t c.temps i e)
await_of start p c (Given t) i e = absurd (below_no (start + c.temps) t c.given i e)
await_of start p c (Answered t) i e = absurd (below_no (start + c.temps + c.given) t c.answered i e)
await_of start p c Depth i e = absurd (cc)
await_of start p c Awaits i e = (refl, cc)

-- the point is there, and this is the spot of its slot
record IsSpot (slots : List Counts) (p : ℕ) (s : Slot) (spot : Spot) : Type 0 where
  counts : Counts
  there : slice_get slots p ≡ Some counts
  is : spot_in (start_of slots p) p counts s ≡ Some spot

spot_there : (slots : List Counts) (p : ℕ) (s : Slot) (spot : Spot) → spot_of slots p s ≡ Some spot → IsSpot slots p s spot
unfolding spot_of
spot_there slots p s spot e = by (slice_get slots p) refl e
  where
    by : (o : Option Counts) → slice_get slots p ≡ o → spot_if o (start_of slots p) p s ≡ Some spot → IsSpot slots p s spot
    by None here none = absurd (none-some spot none)
    by (Some c) here is = record { counts = c; there = here; is = is }

is_plain : (start p : ℕ) (c : Counts) (s : Slot) (i : ℕ) → spot_in start p c s ≡ Some (Plane i) → is_awaits s ≡ false
is_plain start p c (Temp t) i e = refl
is_plain start p c (Given t) i e = refl
is_plain start p c (Answered t) i e = refl
is_plain start p c Depth i e = refl
is_plain start p c Awaits i e = absurd (cc)

-- how many numbers its slot has
pub plane_slot : (slots : List Counts) (p : ℕ) (s : Slot) (i : ℕ) → spot_of slots p s ≡ Some (Plane i) → numbers_of s ≡ ANY_NUMBER + 1
plane_slot slots p s i e = (let a = spot_there slots p s (Plane i) e in cond-false (is_awaits s) AWAITED_NUMBERS
    (ANY_NUMBER + 1) (is_plain (start_of slots p) p a.counts s i a.is))

pub await_slot : (slots : List Counts) (p : ℕ) (s : Slot) (i : ℕ) → spot_of slots p s ≡ Some (Awaited i) → numbers_of s ≡ AWAITED_NUMBERS
await_slot slots p s i e = (let a = spot_there slots p s (Awaited i) e in ap numbers_of (await_of (start_of slots p) p a.counts s i a.is).0)

pub spots_apart : (slots : List Counts) (p q : ℕ) (s t : Slot) (spot : Spot) → spot_of slots p s ≡ Some spot → spot_of slots q t ≡ Some spot → (p ≡ q) × (s ≡ t)
spots_apart slots p q s t spot e f = by spot (spot_there slots p s spot e) (spot_there slots q t spot f)
  where
    by : (spot : Spot) → IsSpot slots p s spot → IsSpot slots q t spot → (p ≡ q) × (s ≡ t)
    by (Plane i) a b =
        let u = plane_of (start_of slots p) p a.counts s i a.is in
        let v = plane_of (start_of slots q) q b.counts t i b.is in
        let ul = u.low in
        let uh = u.high in
        let vl = v.low in
        let vh = v.high in
        elim (cases_order p q) [
          | inl same ↦
              (let counts : a.counts ≡ b.counts = same_Some a.counts b.counts (sym a.there ∙ ap (slice_get slots) same ∙ b.there) in
              (same, sym u.back ∙ (λ j. slot_back (counts j) (i - start_of slots (same j))) ∙ v.back))
          | inr (inl lt) ↦ absurd (let far = start_before slots p q a.counts lt a.there in omega arith)
          | inr (inr gt) ↦ absurd (let far = start_before slots q p b.counts gt b.there in omega arith)
        ]
    by (Awaited i) a b =
        let u = await_of (start_of slots p) p a.counts s i a.is in
        let v = await_of (start_of slots q) q b.counts t i b.is in
        (u.1 ∙ sym v.1, u.0 ∙ sym v.0)

pub has_spot : (slots : List Counts) (p : ℕ) (c : Counts) (s : Slot) → slice_get slots p ≡ Some c → HasPlace c s
    → (spot : Spot) × (spot_of slots p s ≡ Some spot)
unfolding spot_of
has_spot slots p c s there place = (let f = found s place in (f.0, ap (λ o. spot_if o (start_of slots p) p s) there ∙ f.1))
  where
    start : ℕ
    start = start_of slots p

    found : (s : Slot) → HasPlace c s → (spot : Spot) × (spot_in start p c s ≡ Some spot)
    found (Temp t) lt = (Plane (start + t), cond-true (nat_lt t c.temps) (Some (Plane (start + t))) None (lt-ltb t c.temps lt))
    found (Given t) lt = (Plane (start + c.temps + t), cond-true (nat_lt t c.given) (Some (Plane (start + c.temps + t))) None (lt-ltb t c.given lt))
    found (Answered t) lt = (
      Plane (start + c.temps + c.given + t),
      cond-true (nat_lt t c.answered)
          (Some (Plane (start + c.temps + c.given + t))) None (lt-ltb t c.answered lt),
    )
    found Depth u = (Plane (start + c.temps + c.given + c.answered), refl)
    found Awaits u = (Awaited p, refl)

-- ---- spots lie in the planes

module _ (slots : List Counts) (starts : List ℕ) (planes awaits : ℕ) (laid : IsLaid slots starts planes awaits) where
  pub start_fits : (p : ℕ) (c : Counts) → slice_get slots p ≡ Some c → start_of slots p + size_of c ≤ planes
  start_fits p c there =
      let inside = slice_get_within slots p c there in
      let far = start_before slots p (length slots) c inside there in
      let all = laid.each_plane in
      omega arith

  pub plane_within : (p : ℕ) (s : Slot) (i : ℕ) → spot_of slots p s ≡ Some (Plane i) → i < planes
  plane_within p s i e =
      let a = spot_there slots p s (Plane i) e in
      let high = (plane_of (start_of slots p) p a.counts s i a.is).high in
      let fits = start_fits p a.counts a.there in
      omega arith

  pub await_within : (p : ℕ) (s : Slot) (i : ℕ) → spot_of slots p s ≡ Some (Awaited i) → i < awaits
  await_within p s i e =
      let a = spot_there slots p s (Awaited i) e in
      let same = (await_of (start_of slots p) p a.counts s i a.is).1 in
      let inside = slice_get_within slots p a.counts a.there in
      let all = laid.each_await in
      omega arith

-- ---- what is read of the rows of planes

module _ (slots : List Counts) (p : ℕ) (s : Slot) where
  pub spot_none : slice_get slots p ≡ None → None ≡ spot_of slots p s
  unfolding spot_of
  spot_none none = sym (ap (λ o. spot_if o (start_of slots p) p s) none)

  pub spot_some : (c : Counts) (start : ℕ) (r : Option Spot) → slice_get slots p ≡ Some c → start ≡ start_of slots p
      → r ≡ spot_in start p c s → r ≡ spot_of slots p s
  unfolding spot_of
  spot_some c start r there from is = is ∙ ap (λ n. spot_in n p c s) from ∙ sym (ap (λ o. spot_if o (start_of slots p) p s) there)

pub start_is : (slots : List Counts) (starts : List ℕ) (planes awaits p start : ℕ) (c : Counts)
    → IsLaid slots starts planes awaits → slice_get slots p ≡ Some c → start ≡ get_or starts p start
    → start ≡ start_of slots p
start_is slots starts planes awaits p start c laid there is =
    let inside = slice_get_within slots p c there in
    is ∙ get_or_default starts p start 0 (omega (arith, laid.each_start)) ∙ laid.starts_so p inside

pub start_small : (slots : List Counts) (starts : List ℕ) (planes awaits p start : ℕ) (c : Counts)
    → IsLaid slots starts planes awaits → planes < 2 ^ 64 → slice_get slots p ≡ Some c → start ≡ start_of slots p
    → start + size_of c < 2 ^ 64
start_small slots starts planes awaits p start c laid few there is = (let fits = start_fits slots starts planes awaits laid p c there in omega arith)

pub numbers_by : (m : Marks) (q : ℕ) (t : Slot) (o : Option Spot) → spot_of m.slots q t ≡ o → numbers_at m q t ≡ at_spot m o
unfolding numbers_at
numbers_by m q t o e = ap (at_spot m) e

module _ (now : Marks) (slots : List Counts) (planes awaits : List (List ℕ)) (p : ℕ) (s : Slot)
    (view : record { slots = slots; planes = planes; awaits = awaits } ≡ now) where
  module _ (starts : List ℕ) (all_planes all_awaits : ℕ) (laid : IsLaid slots starts all_planes all_awaits) (i : ℕ) where
    pub plane_inside : spot_of now.slots p s ≡ Some (Plane i) → i < all_planes
    plane_inside spot = plane_within slots starts all_planes all_awaits laid p s i (ap (λ (m : Marks). spot_of m.slots p s) view ∙ spot)

    pub await_inside : spot_of now.slots p s ≡ Some (Awaited i) → i < all_awaits
    await_inside spot = await_within slots starts all_planes all_awaits laid p s i (ap (λ (m : Marks). spot_of m.slots p s) view ∙ spot)

  pub plane_numbers : (seen : List (List ℕ)) (i : ℕ) → seen ≡ planes → spot_of now.slots p s ≡ Some (Plane i) → get_or seen i [] ≡ numbers_at now p s
  plane_numbers seen i same spot = ap (λ ps. get_or ps i []) same ∙ ap (λ (m : Marks). get_or m.planes i []) view
      ∙ sym (numbers_by now p s (Some (Plane i)) spot)

  pub await_numbers : (seen : List (List ℕ)) (i : ℕ) → seen ≡ awaits → spot_of now.slots p s ≡ Some (Awaited i) → get_or seen i [] ≡ numbers_at now p s
  await_numbers seen i same spot = ap (λ ps. get_or ps i []) same ∙ ap (λ (m : Marks). get_or m.awaits i []) view
      ∙ sym (numbers_by now p s (Some (Awaited i)) spot)

pub no_numbers : (m : Marks) (p : ℕ) (s : Slot) → spot_of m.slots p s ≡ None → [] ≡ numbers_at m p s
no_numbers m p s spot = sym (numbers_by m p s None spot)

-- ---- a number more, unless memory is refused

module _ (old : Marks) (slots : List Counts) (planes awaits new : List (List ℕ)) (spot : Spot) (i n : ℕ)
    (view : record { slots = slots; planes = planes; awaits = awaits } ≡ old) where
  pub plane_set : (r : Result Bool Memory) → spot ≡ Plane i → IfOk r (λ added. IsSetAt planes i n added new)
      → IfOk r (λ added. SetsAt old n added (Some spot) (record { slots = slots; planes = new; awaits = awaits }))
  plane_set (Ok added) is h = subst (λ o. SetsAt old n added (Some o) (record { slots = slots; planes = new; awaits = awaits })) (sym is) (record {
    slots = ap (λ (m : Marks). m.slots) view;
    planes = subst (λ ps. IsSetAt ps i n added new) (ap (λ (m : Marks). m.planes) view) h;
    awaits = ap (λ (m : Marks). m.awaits) view;
  })
  plane_set (Err e) is u = u

  pub await_set : (r : Result Bool Memory) → spot ≡ Awaited i → IfOk r (λ added. IsSetAt awaits i n added new)
      → IfOk r (λ added. SetsAt old n added (Some spot) (record { slots = slots; planes = planes; awaits = new }))
  await_set (Ok added) is h = subst (λ o. SetsAt old n added (Some o) (record { slots = slots; planes = planes; awaits = new })) (sym is) (record {
    slots = ap (λ (m : Marks). m.slots) view;
    planes = ap (λ (m : Marks). m.planes) view;
    awaits = subst (λ ps. IsSetAt ps i n added new) (ap (λ (m : Marks). m.awaits) view) h;
  })
  await_set (Err e) is u = u

-- all numbers of one spot come to another one, unless memory is refused

module _ (old : Marks) (slots : List Counts) (planes awaits new : List (List ℕ)) (from to : Spot) (i j : ℕ)
    (view : record { slots = slots; planes = planes; awaits = awaits } ≡ old) where
  pub plane_joined : (r : Result Bool Memory) → from ≡ Plane i → to ≡ Plane j → IfOk r (λ grown. IsJoinedAt planes i j grown new)
      → IfOk r (λ grown. JoinsAt old grown (Some from) (Some to) (record { slots = slots; planes = new; awaits = awaits }))
  plane_joined (Ok grown) from_is to_is h = subst
      (λ o. JoinsAt old grown (Some o) (Some to) (record { slots = slots; planes = new; awaits = awaits }))
      (sym from_is) (subst (λ o. JoinsAt old grown (Some (Plane i)) (Some o)
      (record { slots = slots; planes = new; awaits = awaits })) (sym to_is) (record {
        slots = ap (λ (m : Marks). m.slots) view;
        planes = subst (λ ps. IsJoinedAt ps i j grown new) (ap (λ (m : Marks). m.planes) view) h;
        awaits = ap (λ (m : Marks). m.awaits) view;
      }))
  plane_joined (Err e) from_is to_is u = u

  pub await_joined : (r : Result Bool Memory) → from ≡ Awaited i → to ≡ Awaited j → IfOk r (λ grown. IsJoinedAt awaits i j grown new)
      → IfOk r (λ grown. JoinsAt old grown (Some from) (Some to) (record { slots = slots; planes = planes; awaits = new }))
  await_joined (Ok grown) from_is to_is h = subst
      (λ o. JoinsAt old grown (Some o) (Some to) (record { slots = slots; planes = planes; awaits = new }))
      (sym from_is) (subst (λ o. JoinsAt old grown (Some (Awaited i)) (Some o)
      (record { slots = slots; planes = planes; awaits = new })) (sym to_is) (record {
        slots = ap (λ (m : Marks). m.slots) view;
        planes = ap (λ (m : Marks). m.planes) view;
        awaits = subst (λ ps. IsJoinedAt ps i j grown new) (ap (λ (m : Marks). m.awaits) view) h;
      }))
  await_joined (Err e) from_is to_is u = u

-- AWAITS stands in the planes of AWAITS, and nothing else does
pub kinds_apart : {A : Type 0} (from to : Spot) (i j : ℕ) → from ≡ Plane i → to ≡ Awaited j → room_at from ≡ room_at to → A
kinds_apart from to i j from_is to_is alike = absurd (let one = ap room_at from_is in let other = ap room_at to_is in omega (arith, one, other, alike))

-- what memory refused leaves
module _ (old : Marks) (slots : List Counts) (planes awaits new : List (List ℕ)) (view : record { slots = slots; planes = planes; awaits = awaits } ≡ old) where
  pub plane_refused : (r : Result Bool Memory) → OnErr r (new ≡ planes) → OnErr r (record { slots = slots; planes = new; awaits = awaits } ≡ old)
  plane_refused (Ok added) u = u
  plane_refused (Err e) same = (λ j. record { slots = slots; planes = same j; awaits = awaits }) ∙ view

  pub await_refused : (r : Result Bool Memory) → OnErr r (new ≡ awaits) → OnErr r (record { slots = slots; planes = planes; awaits = new } ≡ old)
  await_refused (Ok added) u = u
  await_refused (Err e) same = (λ j. record { slots = slots; planes = planes; awaits = same j }) ∙ view

-- ---- planes for the rows of a table, one point after the other

pub record IsLaying (rows : List Row) (i : ℕ) (slots : List Counts) (starts : List ℕ) (size : ℕ) : Type 0 where
  pub slots_so : slots ≡ map counts_of (take i rows)
  pub laid : IsLaid slots starts size i

pub laying_begin : (rows : List Row) → IsLaying rows 0 [] [] 0
unfolding start_of
laying_begin rows = record {
  slots_so = refl;
  laid = record { each_start = refl; starts_so = λ p lt. absurd (omega arith); each_plane = refl; each_await = refl };
}

laying_more : (rows : List Row) (i : ℕ) (row : Row) (slots new_slots : List Counts) (starts new_starts : List ℕ) (size new_size : ℕ)
    → IsLaying rows i slots starts size → i < length rows → row ≡ get_or rows i row
    → new_slots ≡ slots ++ counts_of row ∷ [] → new_starts ≡ starts ++ size ∷ [] → new_size ≡ size + size_of (counts_of row)
    → IsLaying rows (i + 1) new_slots new_starts new_size
laying_more rows i row slots new_slots starts new_starts size new_size l lt is slots_are starts_are size_is = record {
  slots_so =
      slots_are ∙ ap (λ k. k ++ counts_of row ∷ []) l.slots_so ∙ ap (λ r. map counts_of (take i rows) ++ counts_of r ∷ []) is
      ∙ sym (ap (map counts_of) (take_more rows i row lt) ∙ map-append counts_of (take i rows) (get_or rows i row ∷ []));
  laid = record {
    each_start = omega (
      arith,
      ap length starts_are,
      ap length slots_are,
      length-append starts (size ∷ []),
      length-append slots (counts_of row ∷ []),
      l.laid.each_start,
    );
    starts_so = λ p below. subst (λ k. slice_index_or new_starts p 0 ≡ start_of k p) (sym slots_are)
        (subst (λ k. slice_index_or k p 0 ≡ start_of (slots ++ counts_of row ∷ []) p) (sym starts_are)
        (start_at p (omega (arith, ap length slots_are, length-append slots (counts_of row ∷ [])))));
    each_plane = subst (λ k. new_size ≡ start_of k (length k)) (sym slots_are)
        (omega (arith, size_is, l.laid.each_plane, all_slots, start_last slots (counts_of row)));
    each_await = omega (arith, ap length slots_are, length-append slots (counts_of row ∷ []), l.laid.each_await);
  };
}
  where
    all_slots : start_of (slots ++ counts_of row ∷ []) (length (slots ++ counts_of row ∷ [])) ≡ start_of (slots ++ counts_of row ∷ []) (suc (length slots))
    all_slots = ap (start_of (slots ++ counts_of row ∷ [])) (let long = length-append slots (counts_of row ∷ []) in omega arith)

    start_at : (p : ℕ) → p < suc (length slots) → slice_index_or (starts ++ size ∷ []) p 0 ≡ start_of (slots ++ counts_of row ∷ []) p
    start_at p below = elim (cases_lt p (length slots)) as (λ _. slice_index_or (starts ++ size ∷ []) p 0 ≡ start_of (slots ++ counts_of row ∷ []) p) [
      | inl old ↦
          get_or_append_left starts (size ∷ []) 0 p (omega (arith, l.laid.each_start))
          ∙ l.laid.starts_so p old ∙ sym (start_push slots (counts_of row) p (omega arith))
      | inr last ↦
          (let here : p ≡ length slots = omega arith in
          let first : p - length slots ≡ 0 = omega arith in
          get_or-append_right starts (size ∷ []) (length slots) p 0 l.laid.each_start last
          ∙ ap (λ n. get_or (size ∷ []) n 0) first
          ∙ l.laid.each_plane ∙ sym (ap (start_of (slots ++ counts_of row ∷ [])) here ∙ start_push slots (counts_of row) (length slots) (omega arith)))
    ]

pub laying_step : (rows : List Row) (i : ℕ) (row : Row) (counts : Counts) (more : ℕ) (slots new_slots : List Counts)
    (starts new_starts : List ℕ) (size new_size : ℕ)
    → i < length rows → row ≡ get_or rows i row → counts ≡ counts_of row → more ≡ size_of counts
    → new_slots ≡ slots ++ counts ∷ [] → new_starts ≡ starts ++ size ∷ [] → new_size ≡ size + more
    → IsLaying rows i slots starts size → IsLaying rows (i + 1) new_slots new_starts new_size
laying_step rows i row counts more slots new_slots starts new_starts size new_size lt is counts_are more_is slots_are starts_are size_is l =
    laying_more rows i row slots new_slots starts new_starts size new_size l lt is
    (slots_are ∙ ap (λ c. slots ++ c ∷ []) counts_are)
    starts_are
    (size_is ∙ ap (λ n. size + n) (more_is ∙ ap size_of counts_are))

pub laying_first : (rows : List Row) (slots : List Counts) (starts : List ℕ) → slots ≡ [] → starts ≡ [] → IsLaying rows 0 slots starts 0
laying_first rows slots starts a b = subst (λ l. IsLaying rows 0 l starts 0) (sym a) (subst (λ l. IsLaying rows 0 [] l 0) (sym b) (laying_begin rows))

-- all planes of the rows, which have no numbers
module _ (rows : List Row) (i size count : ℕ) (slots : List Counts) (starts : List ℕ) (l : IsLaying rows i slots starts size) (past : length rows ≤ i) where
  pub laying_blank : (planes awaits : List (List ℕ)) → All (λ ns. ns ≡ []) planes → All (λ ns. ns ≡ []) awaits
      → IsBlank (map counts_of rows) (record { slots = slots; planes = planes; awaits = awaits })
  laying_blank planes awaits no_plane no_await = record {
    slots_so = l.slots_so ∙ ap (map counts_of) (take_all i rows past);
    planes = no_plane;
    awaits = no_await;
  }

  pub laying_laid : (items : List ℕ) (planes awaits : ℕ) → items ≡ starts → planes ≡ size → awaits ≡ count
      → count ≡ length rows → IsLaid slots items planes awaits
  laying_laid items planes awaits same planes_are awaits_are all = subst (λ k. IsLaid slots k planes awaits) (sym same) (record {
    each_start = l.laid.each_start;
    starts_so = l.laid.starts_so;
    each_plane = planes_are ∙ l.laid.each_plane;
    each_await = awaits_are ∙ all ∙ sym (ap length (l.slots_so ∙ ap (map counts_of) (take_all i rows past)) ∙ length-map rows counts_of);
  })

-- all planes are cleared
pub cleared_blank : (old : Marks) (slots : List Counts) (planes awaits new_planes new_awaits : List (List ℕ))
    → record { slots = slots; planes = planes; awaits = awaits } ≡ old
    → All (λ ns. ns ≡ []) new_planes → All (λ ns. ns ≡ []) new_awaits → IsBlank old.slots (record { slots = slots; planes = new_planes; awaits = new_awaits })
cleared_blank old slots planes awaits new_planes new_awaits view no_plane no_await = record {
  slots_so = ap (λ (m : Marks). m.slots) view;
  planes = no_plane;
  awaits = no_await;
}

-- ---- the rows before and after a call

module _ (now : Marks) (slots : List Counts) (starts : List ℕ) (planes awaits : Planes) (p : ℕ) (s : Slot) (i : ℕ)
    (view : record { slots = slots; planes = row_of planes; awaits = row_of awaits } ≡ now)
    (g : IsGrid slots starts planes awaits) where
  pub plane_place : spot_of now.slots p s ≡ Some (Plane i) → i < length planes.set_numbers
  plane_place spot = plane_inside now slots (row_of planes) (row_of awaits) p s view starts (length planes.set_numbers)
      (length awaits.set_numbers) g.laid i spot

  pub await_place : spot_of now.slots p s ≡ Some (Awaited i) → i < length awaits.set_numbers
  await_place spot = await_inside now slots (row_of planes) (row_of awaits) p s view starts (length planes.set_numbers)
      (length awaits.set_numbers) g.laid i spot

-- so is a spot of which nothing else is known
module _ (now : Marks) (slots : List Counts) (starts : List ℕ) (planes awaits : Planes) (spot : Spot) (i : ℕ)
    (view : record { slots = slots; planes = row_of planes; awaits = row_of awaits } ≡ now)
    (g : IsGrid slots starts planes awaits) (has : HoldsSlot now.slots spot) where
  pub plane_held : spot ≡ Plane i → i < length planes.set_numbers
  plane_held is = plane_place now slots starts planes awaits has.point has.slot i view g (has.is ∙ ap Some is)

  pub await_held : spot ≡ Awaited i → i < length awaits.set_numbers
  await_held is = await_place now slots starts planes awaits has.point has.slot i view g (has.is ∙ ap Some is)

-- what stands at a spot
module _ (now : Marks) (slots : List Counts) (planes awaits : List (List ℕ)) (spot : Spot) (i : ℕ)
    (view : record { slots = slots; planes = planes; awaits = awaits } ≡ now) where
  pub plane_at : spot ≡ Plane i → get_or planes i [] ≡ at_spot now (Some spot)
  plane_at is = ap (λ (m : Marks). get_or m.planes i []) view ∙ ap (λ o. at_spot now (Some o)) (sym is)

  pub await_at : spot ≡ Awaited i → get_or awaits i [] ≡ at_spot now (Some spot)
  await_at is = ap (λ (m : Marks). get_or m.awaits i []) view ∙ ap (λ o. at_spot now (Some o)) (sym is)

pub held_at : (m : Marks) (p : ℕ) (s : Slot) (o : Option Spot) (spot : Spot) → o ≡ spot_of m.slots p s → o ≡ Some spot
    → at_spot m (Some spot) ≡ numbers_at m p s
held_at m p s o spot found is = sym (numbers_by m p s (Some spot) (sym found ∙ is))

pub holds_slot : (slots : List Counts) (p : ℕ) (s : Slot) (o : Option Spot) (spot : Spot) → o ≡ spot_of slots p s → o ≡ Some spot → HoldsSlot slots spot
holds_slot slots p s o spot found is = record { point = p; slot = s; is = sym found ∙ is }

-- how many numbers it may have
pub slot_room : (slots : List Counts) (p : ℕ) (s : Slot) (spot : Spot) → spot_of slots p s ≡ Some spot → numbers_of s ≡ room_at spot
slot_room slots p s (Plane i) is = plane_slot slots p s i is
slot_room slots p s (Awaited i) is = await_slot slots p s i is

pub grid_planes : (slots : List Counts) (starts : List ℕ) (planes awaits new : Planes)
    → IsGrid slots starts planes awaits → KeepsRow planes new → IsGrid slots starts new awaits
grid_planes slots starts planes awaits new g keeps = record {
  laid = subst (λ n. IsLaid slots starts n (length awaits.set_numbers)) (sym keeps.long) g.laid;
  planes_sound = keeps.sound;
  planes_wide = keeps.width ∙ g.planes_wide;
  awaits_sound = g.awaits_sound;
  awaits_wide = g.awaits_wide;
}

pub grid_awaits : (slots : List Counts) (starts : List ℕ) (planes awaits new : Planes)
    → IsGrid slots starts planes awaits → KeepsRow awaits new → IsGrid slots starts planes new
grid_awaits slots starts planes awaits new g keeps = record {
  laid = subst (λ n. IsLaid slots starts (length planes.set_numbers) n) (sym keeps.long) g.laid;
  planes_sound = g.planes_sound;
  planes_wide = g.planes_wide;
  awaits_sound = keeps.sound;
  awaits_wide = keeps.width ∙ g.awaits_wide;
}

pub plane_few : (slots : List Counts) (starts : List ℕ) (planes awaits : Planes) (n : ℕ)
    → IsGrid slots starts planes awaits → n < ANY_NUMBER + 1 → n < 64 * planes.sets.width
plane_few slots starts planes awaits n g lt = subst (λ w. n < 64 * w) (sym g.planes_wide) (omega arith)

pub await_few : (slots : List Counts) (starts : List ℕ) (planes awaits : Planes) (n : ℕ)
    → IsGrid slots starts planes awaits → n < AWAITED_NUMBERS → n < 64 * awaits.sets.width
await_few slots starts planes awaits n g lt = subst (λ w. n < 64 * w) (sym g.awaits_wide) (omega arith)

-- ---- a slot that has a spot is before its point

below_some : (first k count : ℕ) (spot : Spot) → spot_below first k count ≡ Some spot → k < count
below_some first k count spot e = by (nat_lt k count) refl e
  where
    by : (t : Bool) → nat_lt k count ≡ t → (if t then Some (Plane (first + k)) else None) ≡ Some spot → k < count
    by true lt same = ltb-true k count lt
    by false lt none = absurd (none-some spot none)

in_place : (start p : ℕ) (c : Counts) (s : Slot) (spot : Spot) → spot_in start p c s ≡ Some spot → HasPlace c s
in_place start p c (Temp t) spot e = below_some start t c.temps spot e
in_place start p c (Given t) spot e = below_some (start + c.temps) t c.given spot e
in_place start p c (Answered t) spot e = below_some (start + c.temps + c.given) t c.answered spot e
in_place start p c Depth spot e = tt
in_place start p c Awaits spot e = tt

pub slot_placed : (slots : List Counts) (p : ℕ) (s : Slot) (spot : Spot) → spot_of slots p s ≡ Some spot → HasSpot slots p s
slot_placed slots p s spot e =
    let a = spot_there slots p s spot e in
    record { counts = a.counts; there = a.there; slot = in_place (start_of slots p) p a.counts s spot a.is }
