-- The least facts of an exchange are a list.
use Rattle.std.proofs.Common.{◌≡◌, ◌⊎◌, inl, inr, ℕ, ◌+◌, ◌<◌, List, [], ◌∷◌, length, Some}
use Rattle.std.proofs.Common.{Contains, slice_get, sym, ap, subst}
use Rattle.std.proofs.lemmas.Option.{slice_get_within}
use Rattle.plex_limits.specs.declared.limits.TheConstants.{MOST_CALLERS}
use Rattle.plex_num.proofs.Members.{first_is, first_or_later, none_in}
use Rattle.exchange_model.specs.declared.exchange.Exchange.{Exchange}
use Rattle.exchange_model.specs.declared.entry.Entry.{Entry}
use Rattle.source_meaning.specs.Changes.{value_count}
use Rattle.flow_points.specs.declared.fact.Fact.{Fact}
use Rattle.flow_points.specs.declared.fact.Slot.{Slot}
use Rattle.flow_points.specs.declared.fact.Value.{Value}
use Rattle.flow_points.specs.declared.fact.Value.TheVariants.{Const}
use Rattle.flow_points.specs.declared.flow.Source.{Source}
use Rattle.flow_points.specs.declared.flow.Source.TheVariants.{Deeper, Is, Nothing, Of}
use Rattle.flow_points.specs.Facts.{Gives, IsClosed, IsDerivation, IsLeast, SourceGives, fact}
use Rattle.flow_points.specs.Flows.{LeadsTo}
use Rattle.flow_points.specs.Places.{IsPlace, Place}
use Rattle.flow_points.specs.Slots.{HasSlot, IsSlotOf}
use Rattle.flow_points.specs.Sources.{source_of, start_source}
use Rattle.flow_points.proofs.Least.{derived_in, least_in}
use Rattle.finite_facts.proofs.Closing.{Closed, IsBuilt, closing}
use Rattle.finite_facts.proofs.Finite.{Listed, below, listed_as, listed_map, listed_none}
use Rattle.finite_facts.proofs.Finite.{listed_one, listed_or, listed_some, listed_then}
use Rattle.finite_facts.proofs.Giving.{given, same_fact}
use Rattle.finite_facts.proofs.Leading.{WayOn, leads}
use Rattle.finite_facts.proofs.Places.{places}
use Rattle.finite_facts.proofs.Slots.{slots_at, slots_of}

same_is : (v w : Value) → Is v ≡ Is w → w ≡ v
same_is v w e = cc

-- the one value of a source
source_is : (s : Source) → Listed (λ (v : Value). s ≡ Is v)
source_is (Of t) = listed_none (λ v. Of t ≡ Is v) (λ v e. cc)
source_is (Is w) = listed_as (λ v. v ≡ w) (λ v. Is w ≡ Is v) (λ v e. ap (λ u. Is u) (sym e)) (λ v e. same_is w v e) (listed_one w)
source_is Deeper = listed_none (λ v. Deeper ≡ Is v) (λ v e. cc)
source_is Nothing = listed_none (λ v. Nothing ≡ Is v) (λ v e. cc)

module _ (x : Exchange) where
  -- the values that the text has: at a start, over a flow, and how many callers wait

  abbrev AtStart : Entry → Value → Type 0
  AtStart entry v = (s : Slot) × HasSlot x entry.point s × (start_source (value_count x entry.signal) s ≡ Is v)

  abbrev OfEntry : ℕ → Value → Type 0
  OfEntry e v = (entry : Entry) × (slice_get x.entries e ≡ Some entry) × AtStart entry v

  abbrev StartValue : Value → Type 0
  StartValue v = (e : ℕ) × (e < length x.entries) × OfEntry e v

  abbrev AtEnd : WayOn → Value → Type 0
  AtEnd w v = (s : Slot) × HasSlot x w.0 s × (source_of w.1 s ≡ Is v)

  abbrev OfPlace : Place → Value → Type 0
  OfPlace at v = (w : WayOn) × LeadsTo x at w.0 w.1 × AtEnd w v

  abbrev FlowValue : Value → Type 0
  FlowValue v = (at : Place) × IsPlace x at × OfPlace at v

  abbrev DeepValue : Value → Type 0
  DeepValue v = (c : ℕ) × (c < MOST_CALLERS) × (v ≡ Const (c + 1))

  abbrev TextValue : Value → Type 0
  TextValue v = StartValue v ⊎ (FlowValue v ⊎ DeepValue v)

  text_values : Listed TextValue
  text_values = listed_or StartValue (λ v. FlowValue v ⊎ DeepValue v) starts
      (listed_or FlowValue DeepValue flows (listed_map (λ c. c < MOST_CALLERS) (λ c. Const (c + 1))
      (below MOST_CALLERS)))
    where
      starts : Listed StartValue
      starts = listed_then (λ e. e < length x.entries) OfEntry (below (length x.entries))
          (λ e lt. listed_then (λ entry. slice_get x.entries e ≡ Some entry) AtStart (listed_some (slice_get x.entries e))
          (λ entry there. listed_then (HasSlot x entry.point)
          (λ s v. start_source (value_count x entry.signal) s ≡ Is v) (slots_at x entry.point)
          (λ s has. source_is (start_source (value_count x entry.signal) s))))

      flows : Listed FlowValue
      flows = listed_then (IsPlace x) OfPlace (places x)
          (λ at is. listed_then (λ (w : WayOn). LeadsTo x at w.0 w.1) AtEnd (leads x at)
          (λ w to. listed_then (HasSlot x w.0) (λ s v. source_of w.1 s ≡ Is v) (slots_at x w.0) (λ s has. source_is (source_of w.1 s))))

  -- the facts that may be told of it: of an entry, before a statement, of a slot, with such a value

  abbrev OfSlot : ℕ → Place → Slot → Fact → Type 0
  OfSlot e at s f = (v : Value) × TextValue v × (f ≡ fact e at.point s v)

  abbrev OfStatement : ℕ → Place → Fact → Type 0
  OfStatement e at f = (s : Slot) × IsSlotOf x at s × OfSlot e at s f

  abbrev OfJobs : ℕ → Fact → Type 0
  OfJobs e f = (at : Place) × IsPlace x at × OfStatement e at f

  abbrev InText : Fact → Type 0
  InText f = (e : ℕ) × (e < length x.entries) × OfJobs e f

  in_text : Listed InText
  in_text = listed_then (λ e. e < length x.entries) OfJobs (below (length x.entries))
      (λ e lt. listed_then (IsPlace x) (OfStatement e) (places x)
      (λ at is. listed_then (IsSlotOf x at) (OfSlot e at) (slots_of x at)
      (λ s has. listed_map TextValue (λ v. fact e at.point s v) text_values)))

  text_fact : (e q : ℕ) (s : Slot) (v : Value) → e < length x.entries → HasSlot x q s → TextValue v → InText (fact e q s v)
  text_fact e q s v lt has is = (e, lt, (has.place, has.stands.place, (s, has.slot, (v, is, λ i. fact e (sym has.stands.here i) s v))))

  value_in : (f : Fact) → InText f → TextValue f.value
  value_in f h = (let o = h.2.2.2 in subst TextValue (sym (ap (λ (g : Fact). g.value) o.2)) o.1)

  entry_in : (f : Fact) → InText f → f.entry < length x.entries
  entry_in f h = subst (λ n. n < length x.entries) (sym (ap (λ (g : Fact). g.entry) h.2.2.2.2)) h.1

  source_in : (e p : ℕ) (s : Source) (v : Value) → SourceGives InText e p s v → (s ≡ Is v → TextValue v) → TextValue v
  source_in e p (Of t) v g is = value_in (fact e p t v) g
  source_in e p (Is w) v g is = is (ap (λ u. Is u) (sym g))
  source_in e p Deeper v g is = inr (inr (g.0, g.1, g.2))
  source_in e p Nothing v g is = absurd g

  text_closed : IsClosed x InText
  text_closed f (inl g) =
      let lt = slice_get_within x.entries f.entry g.entry g.there in
      text_fact f.entry f.point f.slot f.value lt g.slot
      (source_in f.entry f.point (start_source (value_count x g.entry.signal) f.slot) f.value g.gives
      (λ is. inl (f.entry, lt, (g.entry, g.there, (f.slot, subst (λ n. HasSlot x n f.slot) g.lands g.slot, is)))))
  text_closed f (inr (p, g)) =
      let w = g.flow in
      text_fact f.entry f.point f.slot f.value (entry_in (fact f.entry g.at.point _ w.reached.0) w.reached.1) w.slot
      (source_in f.entry g.at.point (source_of g.how f.slot) f.value w.gives
      (λ is. inr (inl (g.at, g.stands.place, ((f.point, g.how), w.leads, (f.slot, w.slot, is))))))

  -- what follows from nothing, turn by turn

  abbrev Rule : List Fact → Fact → Type 0
  Rule known = Gives x (Contains known)

  derived : (fs : List Fact) → IsBuilt Rule fs → IsDerivation x fs
  derived [] built = tt
  derived (f ∷ fs) built = (built.0, derived fs built.1)

  closure : Closed Rule
  closure = closing same_fact Rule (given x) in_text.items
      (λ before built f r. in_text.all f (derived_in x InText text_closed (f ∷ before) (r, derived before built) f
      (first_is f before)))

  ends_with : (fs : List Fact) → IsDerivation x fs → (f : Fact) → Contains fs f → IsLeast x f
  ends_with [] d f c = absurd (none_in f c)
  ends_with (g ∷ fs) d f c = by (first_or_later g f fs c) (ends_with fs d.1 f)
    where
      by : (g ≡ f) ⊎ Contains fs f → (Contains fs f → IsLeast x f) → IsLeast x f
      by (inl is) more = subst (IsLeast x) is (record { before = fs; derived = d })
      by (inr rest) more = more rest

  pub least_facts : Listed (IsLeast x)
  least_facts = record {
    items = closure.items;
    all = λ f h. least_in x (Contains closure.items) closure.closed f h;
    each = λ f c. ends_with closure.items (derived closure.items closure.built) f c;
  }
