-- What is known where one slot gets all that another one has.
use Rattle.std.proofs.Common.{◌≡◌, ◌⊎◌, inl, inr, ⊎_elim, ℕ, ◌+◌, ◌<◌, Bool, true, false, List, []}
use Rattle.std.proofs.Common.{length, get_or, set, map, Contains, Option, Some, None, refl, sym}
use Rattle.std.proofs.Common.{subst, ap, ◌∙◌, arith, length-set, get_or-set_same, get_or-set_other}
use Rattle.std.specs.Prelude.{if◌then◌else◌}
use Rattle.std.specs.Bool.{MatchBool}
use Rattle.std.specs.List.{All, sum_by}
use Rattle.std.specs.Option.{IsSome, is_some}
use Rattle.std.proofs.lemmas.Bool.{cases_eq}
use Rattle.std.proofs.lemmas.List.{set-get_or}
use Rattle.std.proofs.lemmas.List.Elements.{All-contains, All-set}
use Rattle.std.proofs.lemmas.List.Sums.{sum_by-set}
use Rattle.plex_num.proofs.Members.{none_in}
use Rattle.flow_points.specs.declared.fact.Slot.{Slot}
use Rattle.flow_points.specs.declared.fact.Fact.{Fact}
use Rattle.flow_points.specs.declared.fact.Value.TheVariants.{Const}
use Rattle.flow_points.specs.Facts.{fact}
use Rattle.fact_rows.specs.declared.keys.Key.{Key}
use Rattle.fact_rows.specs.declared.place.Spot.{Spot}
use Rattle.fact_rows.specs.declared.place.Spot.TheVariants.{Plane, Awaited}
use Rattle.fact_rows.specs.declared.value.TheConstants.{ANY_NUMBER, AWAITED_NUMBERS}
use Rattle.fact_rows.specs.Numbers.{AreNumbers}
use Rattle.fact_rows.specs.Places.{Marks, at_spot, spot_of, numbers_at}
use Rattle.fact_rows.specs.Values.{is_awaits, numbered_value, room_at, value_in}
use Rattle.fact_rows.specs.Known.{HasSpot, Joins, Knows, BitRows, missing}
use Rattle.fact_rows.specs.Grids.{IsJoinedAt, JoinsAt, JoinsPlane, JoinsAwaited}
use Rattle.fact_rows.specs.Touched.{ArePlaned, IsKept, IsTouched}
use Rattle.fact_rows.proofs.Laying.{has_spot, numbers_by, slot_room, spots_apart}
use Rattle.fact_rows.proofs.Holding.{counted, each_all, from_map, listed_now, planed_at, sums_few}
use Rattle.fact_rows.proofs.Holding.{to_map}

-- a slot gets the numbers of another one, and everything else is as it was
pub record IsMerged (m : Marks) (p : ℕ) (s : Slot) (q : ℕ) (t : Slot) (grown : Bool) (new : Marks) : Type 0 where
  pub slots : new.slots ≡ m.slots
  pub numbers : AreNumbers (λ k. Contains (numbers_at m p s) k ⊎ Contains (numbers_at m q t) k) (numbers_at new q t)
  pub others : (r : ℕ) (u : Slot) → ((r ≡ q) × (u ≡ t)) ⊎ (numbers_at new r u ≡ numbers_at m r u)
  pub planes_long : length new.planes ≡ length m.planes
  pub awaits_long : length new.awaits ≡ length m.awaits
  pub planes : All (ArePlaned (ANY_NUMBER + 1)) new.planes
  pub awaits : All (ArePlaned AWAITED_NUMBERS) new.awaits
  pub more : MatchBool grown (counted m < counted new) (new ≡ m)

joined_planed : (bound : ℕ) (rows : List (List ℕ)) (i j : ℕ) (grown : Bool) (new : List (List ℕ))
    → All (ArePlaned bound) rows → IsJoinedAt rows i j grown new → All (ArePlaned bound) new
joined_planed bound rows i j grown new all h = subst (All (ArePlaned bound)) (sym h.is) (All-set (ArePlaned bound) rows j h.list (record {
  rising = h.numbers.rising;
  below = each_all (λ k. k < bound) h.list (λ k c. ⊎_elim (of_row i k) (of_row j k) (h.numbers.each k c));
}) all)
  where
    of_row : (r k : ℕ) → Contains (get_or rows r []) k → k < bound
    of_row r k c = All-contains (λ n. n < bound) (get_or rows r []) k (planed_at bound rows r all).below c

joined_sum : (rows : List (List ℕ)) (i j : ℕ) (grown : Bool) (new : List (List ℕ)) → IsJoinedAt rows i j grown new
    → MatchBool grown (sum_by length rows < sum_by length new) (new ≡ rows)
joined_sum rows i j grown new h = by grown h.counted
  where
    by : (grown : Bool) → MatchBool grown (length (get_or rows j []) < length h.list) (h.list ≡ get_or rows j [])
        → MatchBool grown (sum_by length rows < sum_by length new) (new ≡ rows)
    by true more = omega (arith, more, ap (sum_by length) h.is, sum_by-set length rows j h.list [] h.within)
    by false same = h.is ∙ ap (set rows j) same ∙ set-get_or rows j []

module _ (m : Marks) (p : ℕ) (s : Slot) (q : ℕ) (t : Slot) (grown : Bool) (i j : ℕ) (new : Marks)
    (planes : All (ArePlaned (ANY_NUMBER + 1)) m.planes) (awaits : All (ArePlaned AWAITED_NUMBERS) m.awaits) where
  plane_merged : spot_of m.slots p s ≡ Some (Plane i) → spot_of m.slots q t ≡ Some (Plane j) → JoinsPlane m grown i j new → IsMerged m p s q t grown new
  plane_merged from to h = record {
    slots = h.slots;
    numbers = subst (λ l. AreNumbers (λ k. Contains (numbers_at m p s) k ⊎ Contains (numbers_at m q t) k) l) (sym here)
        (subst (λ l. AreNumbers (λ k. Contains l k ⊎ Contains (numbers_at m q t) k) h.planes.list) (sym (numbers_by m p s (Some (Plane i)) from))
        (subst (λ l. AreNumbers (λ k. Contains (get_or m.planes i []) k ⊎ Contains l k) h.planes.list)
        (sym (numbers_by m q t (Some (Plane j)) to)) h.planes.numbers));
    others = λ r u. other r u (spot_of m.slots r u) refl;
    planes_long = ap length h.planes.is ∙ length-set m.planes j h.planes.list;
    awaits_long = ap length h.awaits;
    planes = joined_planed (ANY_NUMBER + 1) m.planes i j grown new.planes planes h.planes;
    awaits = subst (All (ArePlaned AWAITED_NUMBERS)) (sym h.awaits) awaits;
    more = by grown (joined_sum m.planes i j grown new.planes h.planes);
  }
    where
      spot_new : (r : ℕ) (u : Slot) (o : Option Spot) → spot_of m.slots r u ≡ o → numbers_at new r u ≡ at_spot new o
      spot_new r u o e = numbers_by new r u o (ap (λ k. spot_of k r u) h.slots ∙ e)

      here : numbers_at new q t ≡ h.planes.list
      here = spot_new q t (Some (Plane j)) to ∙ ap (λ r. get_or r j []) h.planes.is ∙ get_or-set_same m.planes j h.planes.list [] h.planes.within

      other : (r : ℕ) (u : Slot) (o : Option Spot) → spot_of m.slots r u ≡ o → ((r ≡ q) × (u ≡ t)) ⊎ (numbers_at new r u ≡ numbers_at m r u)
      other r u None e = inr (spot_new r u None e ∙ sym (numbers_by m r u None e))
      other r u (Some (Awaited k)) e = inr (spot_new r u (Some (Awaited k)) e ∙ ap (λ l. get_or l k []) h.awaits ∙ sym (numbers_by m r u (Some (Awaited k)) e))
      other r u (Some (Plane k)) e = elim (cases_eq k j) [
        | inl same ↦ inl (spots_apart m.slots r q u t (Plane j) (e ∙ ap (λ n. Some (Plane n)) same) to)
        | inr apart ↦ inr (spot_new r u (Some (Plane k)) e ∙ ap (λ l. get_or l k []) h.planes.is
            ∙ get_or-set_other m.planes j k h.planes.list [] apart ∙ sym (numbers_by m r u (Some (Plane k)) e))
      ]

      by : (grown : Bool) → MatchBool grown (sum_by length m.planes < sum_by length new.planes) (new.planes ≡ m.planes)
          → MatchBool grown (counted m < counted new) (new ≡ m)
      by true more = omega (arith, more, ap (sum_by length) h.awaits)
      by false same = λ k. record { slots = h.slots k; planes = same k; awaits = h.awaits k }

  await_merged : spot_of m.slots p s ≡ Some (Awaited i) → spot_of m.slots q t ≡ Some (Awaited j) → JoinsAwaited m grown i j new → IsMerged m p s q t grown new
  await_merged from to h = record {
    slots = h.slots;
    numbers = subst (λ l. AreNumbers (λ k. Contains (numbers_at m p s) k ⊎ Contains (numbers_at m q t) k) l) (sym here)
        (subst (λ l. AreNumbers (λ k. Contains l k ⊎ Contains (numbers_at m q t) k) h.awaits.list) (sym (numbers_by m p s (Some (Awaited i)) from))
        (subst (λ l. AreNumbers (λ k. Contains (get_or m.awaits i []) k ⊎ Contains l k) h.awaits.list)
        (sym (numbers_by m q t (Some (Awaited j)) to)) h.awaits.numbers));
    others = λ r u. other r u (spot_of m.slots r u) refl;
    planes_long = ap length h.planes;
    awaits_long = ap length h.awaits.is ∙ length-set m.awaits j h.awaits.list;
    planes = subst (All (ArePlaned (ANY_NUMBER + 1))) (sym h.planes) planes;
    awaits = joined_planed AWAITED_NUMBERS m.awaits i j grown new.awaits awaits h.awaits;
    more = by grown (joined_sum m.awaits i j grown new.awaits h.awaits);
  }
    where
      spot_new : (r : ℕ) (u : Slot) (o : Option Spot) → spot_of m.slots r u ≡ o → numbers_at new r u ≡ at_spot new o
      spot_new r u o e = numbers_by new r u o (ap (λ k. spot_of k r u) h.slots ∙ e)

      here : numbers_at new q t ≡ h.awaits.list
      here = spot_new q t (Some (Awaited j)) to ∙ ap (λ r. get_or r j []) h.awaits.is ∙ get_or-set_same m.awaits j h.awaits.list [] h.awaits.within

      other : (r : ℕ) (u : Slot) (o : Option Spot) → spot_of m.slots r u ≡ o → ((r ≡ q) × (u ≡ t)) ⊎ (numbers_at new r u ≡ numbers_at m r u)
      other r u None e = inr (spot_new r u None e ∙ sym (numbers_by m r u None e))
      other r u (Some (Plane k)) e = inr (spot_new r u (Some (Plane k)) e ∙ ap (λ l. get_or l k []) h.planes ∙ sym (numbers_by m r u (Some (Plane k)) e))
      other r u (Some (Awaited k)) e = elim (cases_eq k j) [
        | inl same ↦ inl (spots_apart m.slots r q u t (Awaited j) (e ∙ ap (λ n. Some (Awaited n)) same) to)
        | inr apart ↦ inr (spot_new r u (Some (Awaited k)) e ∙ ap (λ l. get_or l k []) h.awaits.is
            ∙ get_or-set_other m.awaits j k h.awaits.list [] apart ∙ sym (numbers_by m r u (Some (Awaited k)) e))
      ]

      by : (grown : Bool) → MatchBool grown (sum_by length m.awaits < sum_by length new.awaits) (new.awaits ≡ m.awaits)
          → MatchBool grown (counted m < counted new) (new ≡ m)
      by true more = omega (arith, more, ap (sum_by length) h.planes)
      by false same = λ k. record { slots = h.slots k; planes = h.planes k; awaits = same k }

pub spot_merged : (m : Marks) (p : ℕ) (s : Slot) (q : ℕ) (t : Slot) (grown : Bool) (new : Marks)
    → All (ArePlaned (ANY_NUMBER + 1)) m.planes → All (ArePlaned AWAITED_NUMBERS) m.awaits
    → JoinsAt m grown (spot_of m.slots p s) (spot_of m.slots q t) new → IsMerged m p s q t grown new
spot_merged m p s q t grown new planes awaits h = by (spot_of m.slots p s) (spot_of m.slots q t) refl refl h
  where
    by : (o u : Option Spot) → spot_of m.slots p s ≡ o → spot_of m.slots q t ≡ u → JoinsAt m grown o u new → IsMerged m p s q t grown new
    by (Some (Plane i)) (Some (Plane j)) e f joins = plane_merged m p s q t grown i j new planes awaits e f joins
    by (Some (Awaited i)) (Some (Awaited j)) e f joins = await_merged m p s q t grown i j new planes awaits e f joins
    by (Some (Plane i)) (Some (Awaited j)) e f joins = absurd joins
    by (Some (Plane i)) None e f joins = absurd joins
    by (Some (Awaited i)) (Some (Plane j)) e f joins = absurd joins
    by (Some (Awaited i)) None e f joins = absurd joins
    by None (Some u) e f joins = absurd joins
    by None None e f joins = absurd joins

-- ---- what is kept then

-- two slots and their spots
pub record AreSpots (m : Marks) (from to : Key) (source target : Spot) : Type 0 where
  pub from_is : spot_of m.slots from.point from.slot ≡ Some source
  pub to_is : spot_of m.slots to.point to.slot ≡ Some target

of_spots : (m new : Marks) (from to : Key) (grown : Bool) (source target : Spot) → AreSpots m from to source target
    → JoinsAt m grown (Some source) (Some target) new
    → JoinsAt m grown (spot_of m.slots from.point from.slot) (spot_of m.slots to.point to.slot) new
of_spots m new from to grown source target are joins = subst
    (λ o. JoinsAt m grown o (spot_of m.slots to.point to.slot) new) (sym are.from_is)
    (subst (λ o. JoinsAt m grown (Some source) o new) (sym are.to_is) joins)

pub merged_kept : (m new : Marks) (from to : Key) (grown : Bool) (touched later : List ℕ) (source target : Spot)
    → AreSpots m from to source target → IsKept m touched → JoinsAt m grown (Some source) (Some target) new
    → IsTouched m target touched to.point later → IsKept new later
merged_kept m new from to grown touched later source target are kept joins touch =
    let merged = spot_merged m from.point from.slot to.point to.slot grown new kept.planes kept.awaits (of_spots m new from to grown source target are joins) in
    record {
      planes = merged.planes;
      awaits = merged.awaits;
      listed = λ r u. ⊎_elim
          (λ (same : (r ≡ to.point) × (u ≡ to.slot)). inr (subst (Contains later) (sym same.0) here))
          (λ as_was. ⊎_elim (λ none. inl (as_was ∙ none)) (λ there. inr (touch.still r there)) (kept.listed r u))
          (merged.others r u);
    }
  where
    here : Contains later to.point
    here = listed_now m to.point to.slot target touched later are.to_is kept touch

-- ---- what is known then

value_alike : (s t : Slot) (n : ℕ) → is_awaits s ≡ is_awaits t → value_in s n ≡ value_in t n
value_alike s t n alike = ap (λ b. if b then Const n else numbered_value n) alike

known_by : (e : ℕ) (m : Marks) (g : Fact) → g.entry ≡ e → (n : ℕ) → Contains (numbers_at m g.point g.slot) n
    → value_in g.slot n ≡ g.value → Knows (record { entry = e; marks = m }) g
known_by e m g entry n there is = record {
  entry = entry;
  value = subst (Contains (map (value_in g.slot) (numbers_at m g.point g.slot))) is
      (to_map (value_in g.slot) (numbers_at m g.point g.slot) n there);
}

module _ (e : ℕ) (m new : Marks) (from to : Key) (grown : Bool) (alike : is_awaits from.slot ≡ is_awaits to.slot)
    (merged : IsMerged m from.point from.slot to.point to.slot grown new) where
  abbrev before : BitRows
  before = record { entry = e; marks = m }

  abbrev after : BitRows
  after = record { entry = e; marks = new }

  abbrev IsTo : Fact → Type 0
  IsTo g = (g.point ≡ to.point) × (g.slot ≡ to.slot)

  abbrev CameOver : Fact → Type 0
  CameOver g = (g.point ≡ to.point) × (g.slot ≡ to.slot) × Knows before (fact g.entry from.point from.slot g.value)

  moved_to : (l : Marks) (g : Fact) → IsTo g → numbers_at l g.point g.slot ≡ numbers_at l to.point to.slot
  moved_to l g same = λ i. numbers_at l (same.0 i) (same.1 i)

  came : (g : Fact) → Knows after g → CameOver g ⊎ Knows before g
  came g k =
      let there = from_map (value_in g.slot) (numbers_at new g.point g.slot) g.value k.value in
      ⊎_elim
      (λ (same : IsTo g).
      ⊎_elim
      (λ own. inl (
        same.0,
        same.1,
        known_by e m (fact g.entry from.point from.slot g.value) k.entry there.0 own
            (value_alike from.slot to.slot there.0 alike ∙ ap (λ t. value_in t there.0) (sym same.1) ∙ there.2),
      ))
      (λ was. inr (known_by e m g k.entry there.0 (subst (λ l. Contains l there.0) (sym (moved_to m g same)) was) there.2))
      (merged.numbers.each there.0 (subst (λ l. Contains l there.0) (moved_to new g same) there.1)))
      (λ as_was. inr (known_by e m g k.entry there.0 (subst (λ l. Contains l there.0) as_was there.1) there.2))
      (merged.others g.point g.slot)

  over : (g : Fact) → CameOver g → Knows after g
  over g h =
      let same : IsTo g = (h.0, h.1) in
      let there = from_map (value_in from.slot) (numbers_at m from.point from.slot) g.value h.2.value in
      known_by e new g h.2.entry there.0 (subst (λ l. Contains l there.0) (sym (moved_to new g same)) (merged.numbers.listed there.0 (inl there.1)))
      (ap (λ t. value_in t there.0) h.1 ∙ sym (value_alike from.slot to.slot there.0 alike) ∙ there.2)

  still : (g : Fact) → Knows before g → Knows after g
  still g k =
      let there = from_map (value_in g.slot) (numbers_at m g.point g.slot) g.value k.value in
      ⊎_elim
      (λ (same : IsTo g). known_by e new g k.entry there.0
      (subst (λ l. Contains l there.0) (sym (moved_to new g same))
      (merged.numbers.listed there.0 (inr (subst (λ l. Contains l there.0) (moved_to m g same) there.1)))) there.2)
      (λ as_was. known_by e new g k.entry there.0 (subst (λ l. Contains l there.0) (sym as_was) there.1) there.2)
      (merged.others g.point g.slot)

  joined : Joins from to before after
  joined = record { entry = refl; slots = merged.slots; knows = λ g. (came g, λ w. ⊎_elim (over g) (still g) w) }

  fewer_missing : MatchBool grown (missing after < missing before) (after ≡ before)
  unfolding missing
  fewer_missing = by grown merged.more
    where
      by : (grown : Bool) → MatchBool grown (counted m < counted new) (new ≡ m) → MatchBool grown (missing after < missing before) (after ≡ before)
      by true more =
          let few_planes = sums_few (ANY_NUMBER + 1) new.planes merged.planes in
          let few_awaits = sums_few AWAITED_NUMBERS new.awaits merged.awaits in
          let planes = merged.planes_long in
          let awaits = merged.awaits_long in
          omega arith
      by false same = λ i. record { entry = e; marks = same i }

-- what a call that joins two slots leaves
pub record AreJoined (from to : Key) (old new : BitRows) (grown : Bool) : Type 0 where
  pub joins : Joins from to old new
  pub fewer : MatchBool grown (missing new < missing old) (new ≡ old)

pub rows_joined : (k : BitRows) (e : ℕ) (m new : Marks) (from to : Key) (grown : Bool) (touched : List ℕ)
    → record { entry = e; marks = m } ≡ k → is_awaits from.slot ≡ is_awaits to.slot → IsKept m touched
    → (source target : Spot) → AreSpots m from to source target → JoinsAt m grown (Some source) (Some target) new
    → AreJoined from to k (record { entry = e; marks = new }) grown
rows_joined k e m new from to grown touched same alike kept source target are joins =
    let merged = spot_merged m from.point from.slot to.point to.slot grown new kept.planes kept.awaits (of_spots m new from to grown source target are joins) in
    subst (λ (r : BitRows). AreJoined from to r (record { entry = e; marks = new }) grown) same
    (record {
      joins = joined e m new from to grown alike merged;
      fewer = fewer_missing e m new from to grown alike merged;
    })

-- a slot that has nothing gives nothing
pub none_joins : (k : BitRows) (e : ℕ) (m : Marks) (from to : Key) → record { entry = e; marks = m } ≡ k
    → numbers_at m from.point from.slot ≡ [] → Joins from to k k
none_joins k e m from to same none = record { entry = refl; slots = refl; knows = λ g. (λ h. inr h, λ w. ⊎_elim (λ h. absurd (nothing g h.2)) (λ h. h) w) }
  where
    nothing : (g : Fact) → Knows k (fact g.entry from.point from.slot g.value) → ⊥
    nothing g h = none_in g.value (subst (λ l. Contains (map (value_in from.slot) l) g.value) none
        (subst (λ (r : BitRows). Knows r (fact g.entry from.point from.slot g.value)) (sym same) h).value)

-- ---- what is asked of the spots

pub alike_room : (m : Marks) (from to : Key) (source target : Spot) → AreSpots m from to source target
    → is_awaits from.slot ≡ is_awaits to.slot → room_at source ≡ room_at target
alike_room m from to source target are alike =
    sym (slot_room m.slots from.point from.slot source are.from_is)
    ∙ ap (λ b. if b then AWAITED_NUMBERS else ANY_NUMBER + 1) alike
    ∙ slot_room m.slots to.point to.slot target are.to_is

pub spot_there : (k : BitRows) (e : ℕ) (m : Marks) (p : ℕ) (s : Slot) → record { entry = e; marks = m } ≡ k
    → HasSpot k.marks.slots p s → IsSome (spot_of m.slots p s)
spot_there k e m p s same has =
    let own : HasSpot m.slots p s = subst (λ (r : BitRows). HasSpot r.marks.slots p s) (sym same) has in
    ap is_some (has_spot m.slots p own.counts s own.there own.slot).1
