-- What one rule gives from a list of facts, as a list.
use Rattle.std.proofs.Common.{◌≡◌, ℕ, ◌+◌, ◌<◌, List, length, Some, Contains, slice_get, refl, sym}
use Rattle.std.proofs.Common.{ap, subst}
use Rattle.std.proofs.lemmas.Option.{slice_get_within}
use Rattle.plex_limits.specs.declared.limits.TheConstants.{MOST_CALLERS}
use Rattle.exchange_model.specs.declared.exchange.Exchange.{Exchange}
use Rattle.exchange_model.specs.declared.entry.Entry.{Entry}
use Rattle.source_meaning.specs.Changes.{value_count}
use Rattle.flow_points.specs.declared.fact.Fact.{Fact}
use Rattle.flow_points.specs.declared.fact.Slot.{Slot}
use Rattle.flow_points.specs.declared.fact.Slot.TheVariants.{Answered, Awaits, Depth, Given, Temp}
use Rattle.flow_points.specs.declared.fact.Value.{Value}
use Rattle.flow_points.specs.declared.fact.Value.TheVariants.{Any, Arg, Const}
use Rattle.flow_points.specs.declared.flow.Passing.{Passing}
use Rattle.flow_points.specs.declared.flow.Passing.TheVariants.{Answers, Begins, Calls, Kept}
use Rattle.flow_points.specs.declared.flow.Passing.TheVariants.{Passes, Retrieves, Sets, Takes}
use Rattle.flow_points.specs.declared.flow.Source.{Source}
use Rattle.flow_points.specs.declared.flow.Source.TheVariants.{Deeper, Is, Nothing, Of}
use Rattle.flow_points.specs.Facts.{FlowGives, Gives, Guarded, HasRoomForCaller, Known, PointGives}
use Rattle.flow_points.specs.Facts.{Reached, SourceGives, StartGives, fact}
use Rattle.flow_points.specs.Flows.{LeadsTo}
use Rattle.flow_points.specs.Places.{IsPlace, Place}
use Rattle.flow_points.specs.Slots.{HasSlot}
use Rattle.flow_points.specs.Sources.{source_of, start_source}
use Rattle.finite_facts.proofs.Finite.{Decided, Listed, any, below, both, certain, decided_as}
use Rattle.finite_facts.proofs.Finite.{is_in, listed_as, listed_in, listed_none, listed_one}
use Rattle.finite_facts.proofs.Finite.{listed_or, listed_some, listed_then, listed_when, no}
use Rattle.finite_facts.proofs.Finite.{same_number, some_case, yes}
use Rattle.finite_facts.proofs.Leading.{WayOn, leads}
use Rattle.finite_facts.proofs.Places.{places}
use Rattle.finite_facts.proofs.Slots.{slots_at}

-- facts are the same or not

number_of_slot : Slot → ℕ
number_of_slot (Temp t) = t
number_of_slot (Given k) = k
number_of_slot (Answered k) = k
number_of_slot Depth = 0
number_of_slot Awaits = 0

pub same_slot : (s t : Slot) → Decided (s ≡ t)
unfolding number_of_slot
same_slot (Temp t) (Temp u) = decided_as (λ e. ap Temp e) (λ e. ap number_of_slot e) (same_number t u)
same_slot (Given t) (Given u) = decided_as (λ e. ap Given e) (λ e. ap number_of_slot e) (same_number t u)
same_slot (Answered t) (Answered u) = decided_as (λ e. ap Answered e) (λ e. ap number_of_slot e) (same_number t u)
same_slot Depth Depth = yes refl
same_slot Awaits Awaits = yes refl
same_slot _ _ = no (λ e. cc)

number_of_value : Value → ℕ
number_of_value (Arg k) = k
number_of_value (Const c) = c
number_of_value Any = 0

pub same_value : (v w : Value) → Decided (v ≡ w)
unfolding number_of_value
same_value (Arg k) (Arg l) = decided_as (λ e. ap Arg e) (λ e. ap number_of_value e) (same_number k l)
same_value (Const c) (Const d) = decided_as (λ e. ap Const e) (λ e. ap number_of_value e) (same_number c d)
same_value Any Any = yes refl
same_value _ _ = no (λ e. cc)

pub same_fact : (f g : Fact) → Decided (f ≡ g)
same_fact f g =
    decided_as (λ e. (λ i. record { entry = e.0.0 i; point = e.0.1 i; slot = e.1.0 i; value = e.1.1 i }))
    (λ e. ((ap (λ (h : Fact). h.entry) e, ap (λ (h : Fact). h.point) e), (ap (λ (h : Fact). h.slot) e, ap (λ (h : Fact). h.value) e)))
    (both (both (same_number f.entry g.entry) (same_number f.point g.point)) (both (same_slot f.slot g.slot) (same_value f.value g.value)))

-- what is known

module _ (known : List Fact) where
  abbrev IsOf : ℕ → ℕ → Slot → Fact → Type 0
  IsOf e p s f = (f.entry ≡ e) × (f.point ≡ p) × (f.slot ≡ s)

  is_of : (e p : ℕ) (s : Slot) (f : Fact) → Decided (IsOf e p s f)
  is_of e p s f = decided_as (λ h. (h.0.0, h.0.1, h.1)) (λ h. ((h.0, h.1), h.2))
      (both (both (same_number f.entry e) (same_number f.point p)) (same_slot f.slot s))

  pub known_values : (e p : ℕ) (s : Slot) → Listed (λ v. Known (Contains known) e p s v)
  known_values e p s =
      listed_as (λ v. (f : Fact) × Contains known f × (IsOf e p s f × (v ≡ f.value))) (λ v. Known (Contains known) e p s v)
      (λ v h. subst (Contains known) (λ i. record { entry = h.2.0.0 i; point = h.2.0.1 i; slot = h.2.0.2 i; value = sym h.2.1 i }) h.1)
      (λ v c. (fact e p s v, c, ((refl, refl, refl), refl)))
      (listed_then (λ f. Contains known f) (λ f v. IsOf e p s f × (v ≡ f.value)) (listed_in known)
      (λ f c. listed_when (IsOf e p s f) (λ v. v ≡ f.value) (is_of e p s f) (λ h. listed_one f.value)))

  pub is_known : (f : Fact) → Decided (Contains known f)
  is_known f = is_in same_fact known f

  pub is_reached : (e p : ℕ) → Decided (Reached (Contains known) e p)
  is_reached e p = any (λ v. Known (Contains known) e p Depth v) (known_values e p Depth)

  has_room : (e p : ℕ) → Decided (HasRoomForCaller (Contains known) e p)
  has_room e p = some_case (λ c. c < MOST_CALLERS) (λ c. Known (Contains known) e p Depth (Const c))
      (below MOST_CALLERS) (λ c lt. is_known (fact e p Depth (Const c)))

  guarded : (e p q : ℕ) (how : Passing) → Decided (Guarded (Contains known) e p q how)
  guarded e p q (Calls values answer) = has_room e p
  guarded e p q (Answers values) = is_reached e q
  guarded e p q Kept = certain tt
  guarded e p q (Sets temp s) = certain tt
  guarded e p q (Takes temps) = certain tt
  guarded e p q (Retrieves temps) = certain tt
  guarded e p q (Begins values) = certain tt
  guarded e p q (Passes count) = certain tt

  pub source_values : (e p : ℕ) (s : Source) → Listed (SourceGives (Contains known) e p s)
  source_values e p (Of s) = known_values e p s
  source_values e p (Is w) = listed_one w
  source_values e p Deeper =
      listed_as (λ v. (c : ℕ) × (c < MOST_CALLERS) × (Known (Contains known) e p Depth (Const c) × (v ≡ Const (c + 1))))
      (SourceGives (Contains known) e p Deeper)
      (λ v h. (h.0, h.1, h.2.1, h.2.0)) (λ v h. (h.0, h.1, (h.3, h.2)))
      (listed_then (λ c. c < MOST_CALLERS) (λ c v. Known (Contains known) e p Depth (Const c) × (v ≡ Const (c + 1))) (below MOST_CALLERS)
      (λ c lt. listed_when (Known (Contains known) e p Depth (Const c)) (λ v. v ≡ Const (c + 1))
      (is_known (fact e p Depth (Const c))) (λ k. listed_one (Const (c + 1)))))
  source_values e p Nothing = listed_none (SourceGives (Contains known) e p Nothing) (λ v h. h)

-- what is given

module _ (x : Exchange) (known : List Fact) where
  -- of a slot at a point, from a source at another one
  abbrev Values : ℕ → ℕ → ℕ → Slot → Source → Fact → Type 0
  Values e p q s source f = (v : Value) × SourceGives (Contains known) e p source v × (f ≡ fact e q s v)

  values : (e p q : ℕ) (s : Slot) (source : Source) → Listed (Values e p q s source)
  values e p q s source = listed_then (SourceGives (Contains known) e p source) (λ v f. f ≡ fact e q s v)
      (source_values known e p source) (λ v g. listed_one (fact e q s v))

  -- of each slot at a point
  abbrev AllSlots : ℕ → ℕ → ℕ → (Slot → Source) → Fact → Type 0
  AllSlots e p q sources f = (s : Slot) × HasSlot x q s × Values e p q s (sources s) f

  all_slots : (e p q : ℕ) (sources : Slot → Source) → Listed (AllSlots e p q sources)
  all_slots e p q sources = listed_then (HasSlot x q) (λ s f. Values e p q s (sources s) f) (slots_at x q) (λ s has. values e p q s (sources s))

  -- at the start of a job

  abbrev starting : Entry → Slot → Source
  starting entry s = start_source (value_count x entry.signal) s

  abbrev OfEntry : ℕ → Fact → Type 0
  OfEntry e f = (entry : Entry) × (slice_get x.entries e ≡ Some entry) × AllSlots e entry.point entry.point (starting entry) f

  starts : Listed (StartGives x (Contains known))
  starts =
      listed_as (λ f. (e : ℕ) × (e < length x.entries) × OfEntry e f) (StartGives x (Contains known)) to from
      (listed_then (λ e. e < length x.entries) OfEntry (below (length x.entries))
      (λ e lt. listed_then (λ entry. slice_get x.entries e ≡ Some entry)
      (λ entry f. AllSlots e entry.point entry.point (starting entry) f) (listed_some (slice_get x.entries e))
      (λ entry there. all_slots e entry.point entry.point (starting entry))))
    where
      to : (f : Fact) → (e : ℕ) × (e < length x.entries) × OfEntry e f → StartGives x (Contains known) f
      to f h =
          let o = h.2 in
          let s = o.2 in
          let v = s.2 in
          subst (StartGives x (Contains known)) (sym v.2) (record { entry = o.0; there = o.1; lands = refl; slot = s.1; gives = v.1 })

      from : (f : Fact) → StartGives x (Contains known) f → (e : ℕ) × (e < length x.entries) × OfEntry e f
      from f g = (
        f.entry,
        slice_get_within x.entries f.entry g.entry g.there,
        (
          g.entry,
          g.there,
          (
            f.slot,
            subst (λ n. HasSlot x n f.slot) g.lands g.slot,
            (
              f.value,
              subst (λ n. SourceGives (Contains known) f.entry n (starting g.entry f.slot) f.value) g.lands
                  g.gives,
              λ i. record { entry = f.entry; point = g.lands i; slot = f.slot; value = f.value },
            ),
          ),
        ),
      )

  -- over a flow

  abbrev Reaches : Place → WayOn → Fact → Type 0
  Reaches at w r = (r.point ≡ at.point) × (r.slot ≡ Depth) × Guarded (Contains known) r.entry at.point w.0 w.1

  abbrev OfReached : Place → WayOn → Fact → Type 0
  OfReached at w f = (r : Fact) × Contains known r × (Reaches at w r × AllSlots r.entry at.point w.0 (source_of w.1) f)

  abbrev OfPlace : Place → Fact → Type 0
  OfPlace at f = (w : WayOn) × LeadsTo x at w.0 w.1 × OfReached at w f

  reaches : (at : Place) (w : WayOn) (r : Fact) → Decided (Reaches at w r)
  reaches at w r = decided_as (λ h. (h.0.0, h.0.1, h.1)) (λ h. ((h.0, h.1), h.2))
      (both (both (same_number r.point at.point) (same_slot r.slot Depth)) (guarded known r.entry at.point w.0 w.1))

  flows : Listed (λ f. (p : ℕ) × PointGives x (Contains known) p f)
  flows =
      listed_as (λ f. (at : Place) × IsPlace x at × OfPlace at f) (λ f. (p : ℕ) × PointGives x (Contains known) p f) to from
      (listed_then (IsPlace x) OfPlace (places x)
      (λ at is. listed_then (λ w. LeadsTo x at w.0 w.1) (λ w f. OfReached at w f) (leads x at)
      (λ w to. listed_then (λ r. Contains known r) (λ r f. Reaches at w r × AllSlots r.entry at.point w.0 (source_of w.1) f) (listed_in known)
      (λ r c. listed_when (Reaches at w r) (AllSlots r.entry at.point w.0 (source_of w.1)) (reaches at w r)
      (λ h. all_slots r.entry at.point w.0 (source_of w.1))))))
    where
      to : (f : Fact) → (at : Place) × IsPlace x at × OfPlace at f → (p : ℕ) × PointGives x (Contains known) p f
      to f h =
          let at = h.0 in
          let w = h.2.0 in
          let r = h.2.2.0 in
          let known_there = h.2.2.1 in
          let reach = h.2.2.2.0 in
          let s = h.2.2.2.1 in
          let v = s.2 in
          let reached : Reached (Contains known) r.entry
          at.point = (
            r.value,
            subst (Contains known)
                (λ i. record { entry = r.entry; point = reach.0 i; slot = reach.1 i; value = r.value }) known_there,
          ) in (
            at.point,
            record {
              at = at;
              stands = record { place = h.1; here = refl };
              how = w.1;
              flow = subst (FlowGives x (Contains known) at w.1) (sym v.2)
                  (record { leads = h.2.1; reached = reached; guarded = reach.2; slot = s.1; gives = v.1 });
            },
          )

      from : (f : Fact) → (p : ℕ) × PointGives x (Contains known) p f → (at : Place) × IsPlace x at × OfPlace at f
      from f h =
          let g = h.1 in
          let w = g.flow in (
            g.at,
            g.stands.place,
            (
              (f.point, g.how),
              w.leads,
              (
                fact f.entry g.at.point Depth w.reached.0,
                w.reached.1,
                ((refl, refl, w.guarded), (f.slot, w.slot, (f.value, w.gives, refl))),
              ),
            ),
          )

  pub given : Listed (Gives x (Contains known))
  given = listed_or (StartGives x (Contains known)) (λ f. (p : ℕ) × PointGives x (Contains known) p f) starts flows
