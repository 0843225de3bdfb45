-- What the flows from a point give, and the start of a job.
use Rattle.std.proofs.Common.{◌≡◌, ℕ, ◌<◌, ◌≤◌, ◌+◌, Bool, true, List, length, get_or, Some}
use Rattle.std.proofs.Common.{slice_get, refl, sym, ap, ◌∙◌, subst, arith}
use Rattle.std.specs.Prelude.{◌↔◌}
use Rattle.std.specs.List.{AllByRecursion, Contains}
use Rattle.std.proofs.lemmas.Option.{none-some, same_Some, slice_get_past}
use Rattle.exchange_model.specs.declared.exchange.Exchange.{Exchange}
use Rattle.exchange_model.specs.declared.entry.Entry.{Entry}
use Rattle.exchange_model.specs.Kept.{IsExchange}
use Rattle.source_meaning.specs.Changes.{value_count}
use Rattle.source_meaning.proofs.Fitting.{answer_below}
use Rattle.flow_points.specs.declared.fact.Fact.{Fact}
use Rattle.flow_points.specs.declared.fact.Slot.{Slot}
use Rattle.flow_points.specs.declared.flow.Passing.{Passing}
use Rattle.flow_points.specs.declared.flow.Source.{Source}
use Rattle.flow_points.specs.Facts.{Facts, Reached, Guarded, SourceGives}
use Rattle.flow_points.specs.Flows.{LeadsTo}
use Rattle.flow_points.specs.Places.{Place, StandsAt, IsRetrieveAt}
use Rattle.flow_points.specs.Slots.{HasSlot}
use Rattle.flow_points.specs.Sources.{source_of, start_source}
use Rattle.flow_table.specs.declared.row.Row.{Row}
use Rattle.flow_table.specs.declared.row.FlowTable.{FlowTable}
use Rattle.flow_table.specs.declared.way.Ends.TheVariants as ends
use Rattle.flow_table.specs.declared.way.Way.{Way}
use Rattle.flow_table.specs.Giving.{HasGiven, SlotGives, SlotsGive}
use Rattle.flow_table.specs.Rows.{IsRowOf, IsFlowTable}
use Rattle.flow_table.specs.Small.{IsSmall}
use Rattle.flow_table.specs.Ways.{IsWayEnd}
use Rattle.flow_table.proofs.Rowing.{place_fits}
use Rattle.flow_table.proofs.Slotted.{row_of}
use Rattle.fact_flows.specs.Flows.{OneGives, FlowsTo, WayGives, StartsIn}
use Rattle.fact_flows.specs.Given.{GivenAt, GivenAtStart}
use Rattle.fact_flows.specs.Slots.{AreSlots}
use Rattle.fact_flows.proofs.Gathering.{Gathers, gather_more, given_as, given_none}
use Rattle.fact_flows.proofs.Peopled.{point_stands}

-- one flow

pub not_guarded : (x : Exchange) (P : Facts) (e p : ℕ) (how : Passing) (q : ℕ) (b : Bool) (old : List Fact)
    → (b ≡ true) ↔ Guarded P e p q how → (b ≡ true → ⊥) → HasGiven old old (FlowsTo x P e p how q)
not_guarded x P e p how q b old test none = given_none (FlowsTo x P e p how q) old (λ f h. none (test.1 h.guarded))

pub guarded_flow : (x : Exchange) (P : Facts) (e p : ℕ) (how : Passing) (q : ℕ) (slots : List Slot)
    (old new : List Fact) → Guarded P e p q how → AreSlots x q slots → HasGiven old new (SlotsGive P e p how q slots)
    → HasGiven old new (FlowsTo x P e p how q)
guarded_flow x P e p how q slots old new guarded are h =
    given_as (SlotsGive P e p how q slots) (FlowsTo x P e p how q) old new
    (λ f k. record { entry = k.entry; point = k.point; guarded = guarded; slot = (are.exact f.slot).0 k.slot; gives = k.gives })
    (λ f k. record { entry = k.entry; point = k.point; slot = (are.exact f.slot).1 k.slot; gives = k.gives })
    h

-- one way

way_of_ends : (x : Exchange) (P : Facts) (e p : ℕ) (w : Way) (points : List ℕ)
    → ((q : ℕ) → Contains points q ↔ IsWayEnd x w.ends q) → (f : Fact)
    → OneGives (FlowsTo x P e p w.how) points f ↔ WayGives x P e p w f
way_of_ends x P e p w points are f = (
  λ k. record { end = k.one; ends = (are k.one).0 k.among; flows = k.gives },
  λ k. record { one = k.end; among = (are k.end).1 k.ends; gives = k.flows },
)

pub to_points : (x : Exchange) (P : Facts) (e p : ℕ) (w : Way) (listed points : List ℕ) → w.ends ≡ ends.Points listed
    → points ≡ listed → (f : Fact) → OneGives (FlowsTo x P e p w.how) points f ↔ WayGives x P e p w f
to_points x P e p w listed points is same =
    way_of_ends x P e p w points (λ q. subst (λ k. Contains points q ↔ IsWayEnd x k q) (sym is)
    (λ c. subst (λ l. Contains l q) same c, λ c. subst (λ l. Contains l q) (sym same) c))

pub to_retrieves : (x : Exchange) (t : FlowTable) (P : Facts) (e p : ℕ) (w : Way) (answer : ℕ) (listed points : List ℕ)
    → IsFlowTable x t → w.ends ≡ ends.Retrieves answer → slice_get t.retrieves answer ≡ Some listed → points ≡ listed
    → (f : Fact)
    → OneGives (FlowsTo x P e p w.how) points f ↔ WayGives x P e p w f
to_retrieves x t P e p w answer listed points table is there same =
    let are = table.retrieves.exact answer listed there in
    way_of_ends x P e p w points
    (λ q. subst (λ k. Contains points q ↔ IsWayEnd x k q) (sym is) (
      λ c. (are.exact q).0 (subst (λ l. Contains l q) same c),
      λ r. subst (λ l. Contains l q) (sym same)
          ((are.exact q).1 r),
    ))

pub no_retrieves : (x : Exchange) (t : FlowTable) (P : Facts) (e p : ℕ) (w : Way) (answer : ℕ) → IsExchange x
    → IsFlowTable x t → w.ends ≡ ends.Retrieves answer → length t.retrieves ≤ answer → (f : Fact) → WayGives x P e p w f
    → ⊥
no_retrieves x t P e p w answer kept table is past f k =
    let r : IsRetrieveAt x k.end answer = subst (λ o. IsWayEnd x o k.end) is k.ends in
    let many = table.retrieves.each_signal in
    answer_below x r.place.block r.place.layer answer (omega (arith, many, past)) (place_fits x r.place kept r.stands.place) r.retrieves

-- all flows from a point

pub ways_give : (x : Exchange) (P : Facts) (e p : ℕ) (at : Place) (r : Row) → StandsAt x p at → IsRowOf x at r
    → Reached P e p → (f : Fact) → OneGives (WayGives x P e p) r.ways f → GivenAt x P e p f
ways_give x P e p at r stands is reached f h =
    let w = h.gives in
    let q : f.point ≡ w.end = w.flows.point in
    let leads : LeadsTo x at f.point h.one.how = subst (λ n. LeadsTo x at n h.one.how) (sym q)
    ((is.ways.exact w.end h.one.how).0 (record
    { way = h.one; one = h.among; leads = record { end = w.ends; is = refl } })) in
    let entry : e ≡ f.entry = sym w.flows.entry in
    let here : p ≡ at.point = sym stands.here in
    record {
      entry = w.flows.entry;
      gives = record {
        at = at;
        stands = stands;
        how = h.one.how;
        flow = record {
          leads = leads;
          reached = subst (λ n. Reached P n at.point) entry (subst (λ n. Reached P e n) here reached);
          guarded = subst (λ n. Guarded P n at.point f.point h.one.how) entry
              (subst (λ n. Guarded P e n f.point h.one.how) here
              (subst (λ n. Guarded P e p n h.one.how) (sym q) w.flows.guarded));
          slot = subst (λ n. HasSlot x n f.slot) (sym q) w.flows.slot;
          gives = subst (λ n. SourceGives P n at.point (source_of h.one.how f.slot) f.value) entry
              (subst (λ n. SourceGives P e n (source_of h.one.how f.slot) f.value) here w.flows.gives);
        };
      };
    }

of_ways : (x : Exchange) (P : Facts) (e p : ℕ) (r : Row) → ((at : Place) → StandsAt x p at → IsRowOf x at r)
    → (f : Fact) → GivenAt x P e p f → OneGives (WayGives x P e p) r.ways f
of_ways x P e p r is f h =
    let g = h.gives in
    let w = ((is g.at g.stands).ways.exact f.point g.how).1 g.flow.leads in
    let how : g.how ≡ w.way.how = w.leads.is in
    let entry : f.entry ≡ e = h.entry in
    let here : g.at.point ≡ p = g.stands.here in
    record {
      one = w.way;
      among = w.one;
      gives = record {
        end = f.point;
        ends = w.leads.end;
        flows = record {
          entry = entry;
          point = refl;
          guarded = subst (λ k. Guarded P e p f.point k) how
              (subst (λ n. Guarded P n p f.point g.how) entry
              (subst (λ n. Guarded P f.entry n f.point g.how) here g.flow.guarded));
          slot = g.flow.slot;
          gives = subst (λ (k : Passing). SourceGives P e p (source_of k f.slot) f.value) how
              (subst (λ n. SourceGives P n p (source_of g.how f.slot) f.value) entry
              (subst (λ n. SourceGives P f.entry n (source_of g.how f.slot) f.value) here g.flow.gives));
        };
      };
    }

pub all_ways : (x : Exchange) (t : FlowTable) (P : Facts) (e p : ℕ) (r : Row) (ways : List Way) → IsExchange x
    → IsFlowTable x t → p < length x.points → slice_get t.rows p ≡ Some r → ways ≡ r.ways → Reached P e p → (f : Fact)
    → OneGives (WayGives x P e p) ways f ↔ GivenAt x P e p f
all_ways x t P e p r ways kept table lt there same reached f =
    let at = point_stands x kept p lt in (
      λ o. ways_give x P e p at.at r at.stands (row_of x t p r at.at table there at.stands) reached f (subst (λ ws. OneGives (WayGives x P e p) ws f) same o),
      λ g. subst (λ ws. OneGives (WayGives x P e p) ws f) (sym same) (of_ways x P e p r (λ place stands. row_of x t p r place table there stands) f g),
    )

pub ways_small : (x : Exchange) (t : FlowTable) (p : ℕ) (r : Row) (ways : List Way) → IsExchange x → IsFlowTable x t
    → p < length x.points → slice_get t.rows p ≡ Some r → ways ≡ r.ways
    → AllByRecursion (λ (w : Way). IsSmall w.how) ways
ways_small x t p r ways kept table lt there same =
    let at = point_stands x kept p lt in
    subst (AllByRecursion (λ (w : Way). IsSmall w.how)) (sym same) (row_of x t p r at.at table there at.stands).small

-- the start

pub no_start : (x : Exchange) (P : Facts) (e : ℕ) (old : List Fact) → length x.entries ≤ e → HasGiven old old (GivenAtStart x P e)
no_start x P e old past =
    given_none (GivenAtStart x P e) old (λ f h.
    let there : slice_get x.entries e ≡ Some h.gives.entry = subst (λ n. slice_get x.entries n ≡ Some h.gives.entry) h.entry h.gives.there in
    none-some h.gives.entry (sym (slice_get_past x.entries e past) ∙ there))

pub starts_more : (P : Facts) (e p count : ℕ) (slots : List Slot) (i : ℕ) (d : Slot) (source : Source)
    (old now new : List Fact) → i < length slots → source ≡ start_source count (get_or slots i d)
    → HasGiven now new (SlotGives P e p source p (get_or slots i d)) → Gathers (StartsIn P e p count) slots old i now
    → Gathers (StartsIn P e p count) slots old (i + 1) new
starts_more P e p count slots i d source old now new lt from h g =
    gather_more (StartsIn P e p count) slots i d old now new lt (subst (λ s. HasGiven now new (SlotGives P e p s p (get_or slots i d))) from h) g

pub started : (x : Exchange) (P : Facts) (e : ℕ) (k : Entry) (count : ℕ) (all slots : List Slot) (old new : List Fact)
    → slice_get x.entries e ≡ Some k → count ≡ value_count x k.signal → AreSlots x k.point all → slots ≡ all
    → HasGiven old new (OneGives (StartsIn P e k.point count) slots) → HasGiven old new (GivenAtStart x P e)
started x P e k count all slots old new there many are listed h =
    given_as (OneGives (StartsIn P e k.point count) slots) (GivenAtStart x P e) old new to from h
  where
    to : (f : Fact) → OneGives (StartsIn P e k.point count) slots f → GivenAtStart x P e f
    to f o =
        let s = o.gives in
        let slot : o.one ≡ f.slot = sym s.slot in
        let has : HasSlot x k.point f.slot = subst (HasSlot x k.point) slot ((are.exact o.one).0 (subst (λ l. Contains l o.one) listed o.among)) in
        let gives : SourceGives P e k.point (start_source (value_count x k.signal) f.slot) f.value = subst
        (λ n. SourceGives P e k.point (start_source n f.slot) f.value) many
        (subst (λ z. SourceGives P e k.point (start_source count z) f.value) slot s.gives) in
        record {
          entry = s.entry;
          gives = record {
            entry = k;
            there = subst (λ n. slice_get x.entries n ≡ Some k) (sym s.entry) there;
            lands = s.point;
            slot = subst (λ n. HasSlot x n f.slot) (sym s.point) has;
            gives = subst (λ n. SourceGives P n f.point (start_source (value_count x k.signal) f.slot) f.value)
                (sym s.entry) (subst (λ n. SourceGives P e n (start_source (value_count x k.signal) f.slot) f.value)
                (sym s.point) gives);
          };
        }

    from : (f : Fact) → GivenAtStart x P e f → OneGives (StartsIn P e k.point count) slots f
    from f h =
        let g = h.gives in
        let own : g.entry ≡ k = same_Some g.entry k (sym (subst (λ n. slice_get x.entries n ≡ Some g.entry) h.entry g.there) ∙ there) in
        let lands : f.point ≡ k.point = g.lands ∙ ap (λ (z : Entry). z.point) own in
        let gives : SourceGives P e k.point (start_source (value_count x k.signal) f.slot) f.value = subst
        (λ (z : Entry). SourceGives P e k.point (start_source (value_count x z.signal) f.slot) f.value) own
        (subst (λ n. SourceGives P e n (start_source (value_count x g.entry.signal) f.slot) f.value) lands
        (subst (λ n. SourceGives P n f.point (start_source (value_count x g.entry.signal) f.slot) f.value) h.entry
        g.gives)) in
        record {
          one = f.slot;
          among = subst (λ l. Contains l f.slot) (sym listed) ((are.exact f.slot).1 (subst (λ n. HasSlot x n f.slot) lands g.slot));
          gives = record {
            entry = h.entry;
            point = lands;
            slot = refl;
            gives = subst (λ n. SourceGives P e k.point (start_source n f.slot) f.value) (sym many) gives;
          };
        }
