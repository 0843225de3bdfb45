-- The ways of the table from the points that are reached are the flows from them.
use Rattle.std.proofs.Common.{◌≡◌, ⊎_elim, ℕ, zero, suc, ◌+◌, ◌<◌, ◌≤◌, Bool, true, false, List, []}
use Rattle.std.proofs.Common.{◌∷◌, ◌++◌, length, map, get_or, Option, Some, None, Result, Ok, Err}
use Rattle.std.proofs.Common.{IfOk, slice_get, refl, sym, ap, ◌∙◌, subst, arith}
use Rattle.std.specs.Prelude.{◌↔◌, unwrap_or}
use Rattle.std.specs.List.{Contains}
use Rattle.std.proofs.lemmas.Bool.{cases_lt}
use Rattle.std.proofs.lemmas.List.{length-map, length_push}
use Rattle.std.proofs.lemmas.Option.{slice_get_within, none-some, same_Some}
use Rattle.plex_num.specs.declared.seq.Memory.{Memory}
use Rattle.plex_num.proofs.Lists.{slice_get-append_left, slice_get-append_seam, some_at}
use Rattle.plex_num.proofs.Members.{none_in}
use Rattle.exchange_model.specs.declared.exchange.Exchange.{Exchange}
use Rattle.exchange_model.specs.declared.signal.SignalKind.{SignalKind}
use Rattle.exchange_model.specs.declared.stmt.StmtKind.TheOpen as layer
use Rattle.exchange_model.specs.Fits.{Scope, AnswerFits, KindNames, retrieved}
use Rattle.exchange_model.specs.Kept.{IsExchange}
use Rattle.source_meaning.specs.Named.{Layer}
use Rattle.flow_points.specs.Facts.{Facts, Reached}
use Rattle.flow_points.specs.Places.{Place, StandsAt, IsRetrieveAt}
use Rattle.flow_table.specs.declared.place.PlaceAt.{PlaceAt}
use Rattle.flow_table.specs.declared.row.FlowTable.{FlowTable}
use Rattle.flow_table.specs.declared.way.Ends.{Ends}
use Rattle.flow_table.specs.declared.way.Ends.TheVariants as ends
use Rattle.flow_table.specs.Rows.{IsFlowTable}
use Rattle.flow_table.specs.Texts.{ArePlaces, seen}
use Rattle.flow_table.specs.Ways.{IsWayEnd}
use Rattle.flow_table.proofs.Rowing.{place_fits}
use Rattle.entry_summary.specs.Faults.{FlowLeads, Walk, Once, Then, GoesRound}
use Rattle.entry_faults.specs.Marks.{is_in}
use Rattle.entry_faults.specs.Circles.{ends_of, ways_in, ways_at, LeadTo, Leads, Route, One, More}
use Rattle.entry_faults.specs.Circles.{Circles}
use Rattle.entry_faults.specs.Reaching.{AreReached}
use Rattle.entry_faults.proofs.Marking.{in_within}

-- which places are reached

pub record ReachedGo (P : Facts) (e : ℕ) (places : List PlaceAt) (i : ℕ) (now : List Bool) : Type 0 where
  pub long : length now ≡ i
  pub exact : (p : ℕ) (at : PlaceAt) → p < i → slice_get places p ≡ Some at → (is_in now p ≡ true) ↔ Reached P e at.point

pub reached_begin : (P : Facts) (e : ℕ) (places : List PlaceAt) (now : List Bool) → now ≡ [] → ReachedGo P e places 0 now
reached_begin P e places now none = record { long = ap length none; exact = λ p at lt there. absurd (omega arith) }

get_at : (places : List PlaceAt) (i : ℕ) (at : PlaceAt) → i < length places → at ≡ get_or places i at → slice_get places i ≡ Some at
get_at [] i at lt is = absurd (omega arith)
get_at (a ∷ places) zero at lt is = ap Some (sym is)
get_at (a ∷ places) (suc i) at lt is = get_at places i at (omega arith) is

pub reached_more : (P : Facts) (e : ℕ) (places : List PlaceAt) (i : ℕ) (at : PlaceAt) (b : Bool) (now new : List Bool)
    → i < length places → at ≡ get_or places i at → ((b ≡ true) ↔ Reached P e at.point) → new ≡ now ++ b ∷ []
    → ReachedGo P e places i now → ReachedGo P e places (i + 1) new
reached_more P e places i at b now new lt is exact made g = record {
  long = (let l = ap length made ∙ length_push now b in let h = g.long in omega (arith, l, h));
  exact = λ p a below there. ⊎_elim (λ before. old p a before there) (λ from. last p a (let e : p ≡ i = omega (arith, below, from) in e) there) (cases_lt p i);
}
  where
    old : (p : ℕ) (a : PlaceAt) → p < i → slice_get places p ≡ Some a → (is_in new p ≡ true) ↔ Reached P e a.point
    old p a before there =
        let same : is_in new p ≡ is_in now p = ap (λ l. is_in l p) made
        ∙ ap (λ o. unwrap_or o false) (slice_get-append_left now (b ∷ []) p
        (let h = g.long in omega (arith, h, before))) in
        let h = g.exact p a before there in
        (λ yes_is. h.0 (sym same ∙ yes_is), λ r. same ∙ h.1 r)

    last : (p : ℕ) (a : PlaceAt) → p ≡ i → slice_get places p ≡ Some a → (is_in new p ≡ true) ↔ Reached P e a.point
    last p a here there =
        let same : is_in new p ≡ b = ap (λ l. is_in l p) made ∙ ap (λ n. is_in (now ++ b ∷ []) n) (here ∙ sym g.long)
        ∙ ap (λ o. unwrap_or o false) (slice_get-append_seam now b []) in
        let one : at ≡ a = same_Some at a (sym (get_at places i at lt is) ∙ ap (slice_get places) (sym here) ∙ there) in
        subst (λ (q : PlaceAt). (is_in new p ≡ true) ↔ Reached P e q.point) one (λ yes_is. exact.0 (sym same ∙ yes_is), λ r. same ∙ exact.1 r)

pub reached_end : (P : Facts) (e : ℕ) (places : List PlaceAt) (i : ℕ) (now : List Bool) → i ≤ length places
    → length places ≤ i → ReachedGo P e places i now → AreReached P e places now
reached_end P e places i now low high g = record {
  long = (let h = g.long in omega (arith, h, low, high));
  exact = λ p at there. g.exact p at (let lt = slice_get_within places p at there in omega (arith, lt, high)) there;
}

-- a place that is seen

seen_from : (places : List PlaceAt) (p : ℕ) (q : Place) → slice_get (map seen places) p ≡ Some q
    → (at : PlaceAt) × (slice_get places p ≡ Some at) × (seen at ≡ q)
seen_from [] p q there = absurd (none-some q there)
seen_from (a ∷ places) zero q there = (a, refl, same_Some (seen a) q there)
seen_from (a ∷ places) (suc p) q there = seen_from places p q there

-- an answer is a signal

answer_signal : (s : Scope) (answer count : ℕ) (o : Option SignalKind) → slice_get s.signals answer ≡ o → AnswerFits o count → answer < length s.signals
answer_signal s answer count None none fits = absurd fits
answer_signal s answer count (Some k) some fits = slice_get_within s.signals answer k some

retrieve_signal : (s : Scope) (l : Layer) (answer : ℕ) → retrieved l ≡ Some answer → KindNames s l → answer < length s.signals
retrieve_signal s (layer.Retrieve m temps) answer is names = subst (λ n. n < length s.signals) (same_Some m answer is)
    (answer_signal s m (length temps) (slice_get s.signals m) refl names.0)
retrieve_signal s _ answer is names = absurd (none-some answer is)

module _ (x : Exchange) (P : Facts) (e : ℕ) (t : FlowTable) (places : List PlaceAt) (r : List Bool)
    (kept : IsExchange x) (table : IsFlowTable x t) (are : ArePlaces x (map seen places))
    (reached : AreReached P e places r) where
  reach : (p : ℕ) (at : Place) → StandsAt x p at → (is_in r p ≡ true) ↔ Reached P e p
  reach p at stands =
      let found = seen_from places p at (are.listed p at stands) in
      let same : found.0.point ≡ p = ap (λ (q : Place). q.point) found.2 ∙ stands.here in
      subst (λ n. (is_in r p ≡ true) ↔ Reached P e n) same (reached.exact p found.0 found.1)

  stands_at : (p : ℕ) → is_in r p ≡ true → (at : Place) × StandsAt x p at
  stands_at p is =
      let within = in_within r p is in
      let long = reached.long in
      let mapped = length-map places seen in
      let found = some_at (map seen places) p (omega (arith, within, long, mapped)) in
      (found.0, are.stands p found.0 found.1)

  ways_are : (p : ℕ) (at : Place) (stands : StandsAt x p at) → ways_at t p ≡ (table.rows.each p at stands).row.ways
  ways_are p at stands = ap ways_in (table.rows.each p at stands).there

  end_by : (answer q : ℕ) (o : Option (List ℕ)) → slice_get t.retrieves answer ≡ o → Contains (unwrap_or o []) q → IsRetrieveAt x q answer
  end_by answer q None none c = absurd (none_in q c)
  end_by answer q (Some points) some c = ((table.retrieves.exact answer points some).exact q).0 c

  end_is : (w : Ends) (q : ℕ) → Contains (ends_of t w) q → IsWayEnd x w q
  end_is (ends.Points points) q c = c
  end_is (ends.Retrieves answer) q c = end_by answer q (slice_get t.retrieves answer) refl c

  is_end : (w : Ends) (q : ℕ) → IsWayEnd x w q → Contains (ends_of t w) q
  is_end (ends.Points points) q c = c
  is_end (ends.Retrieves answer) q h =
      let fits = place_fits x h.place kept h.stands.place in
      let below : answer < length x.signals = retrieve_signal _ h.place.layer answer h.retrieves fits.fits.names in
      let long = table.retrieves.each_signal in
      let found = some_at t.retrieves answer (omega (arith, below, long)) in
      subst (λ o. Contains (unwrap_or o []) q) (sym found.1) (((table.retrieves.exact answer found.0 found.1).exact q).1 h)

  goes : (p q : ℕ) → Leads t r p q → FlowLeads x P e p q
  goes p q l =
      let found = stands_at p l.from in
      let row = table.rows.each p found.0 found.1 in
      let lead : LeadTo t row.row.ways q = subst (λ ws. LeadTo t ws q) (ways_are p found.0 found.1) l.leads in
      record {
        at = found.0;
        stands = found.1;
        reached = (reach p found.0 found.1).0 l.from;
        how = lead.way.how;
        leads = (row.is.ways.exact q lead.way.how).0
            (record {
              way = lead.way;
              one = lead.one;
              leads = record { end = end_is lead.way.ends q lead.end; is = refl };
            });
      }

  leads : (p q : ℕ) → FlowLeads x P e p q → Leads t r p q
  leads p q g =
      let row = table.rows.each p g.at g.stands in
      let lead = (row.is.ways.exact q g.how).1 g.leads in
      record {
        from = (reach p g.at g.stands).1 g.reached;
        leads = subst (λ ws. LeadTo t ws q) (sym (ways_are p g.at g.stands))
            (record { way = lead.way; one = lead.one; end = is_end lead.way.ends q lead.leads.end });
      }

  walk_of : (p q : ℕ) → Route t r p q → Walk x P e p q
  walk_of p q (One l) = Once (goes p q l)
  walk_of p q (More l w) = Then (goes p _ l) (walk_of _ q w)

  route_of : (p q : ℕ) → Walk x P e p q → Route t r p q
  route_of p q (Once g) = One (leads p q g)
  route_of p q (Then g w) = More (leads p _ g) (route_of _ q w)

  pub round_is : (b : Bool) → ((b ≡ true) ↔ Circles t r) → (b ≡ true) ↔ GoesRound x P e
  round_is b h = (
    λ is. let c = h.0 is in record { point = c.point; walk = walk_of c.point c.point c.route },
    λ g. h.1 (record { point = g.point; route = route_of g.point g.point g.walk }),
  )

-- an answer of a call, read as another
pub ok_as : {T : Type 0} (r : Result T Memory) (A B : T → Type 0) → ((v : T) → A v → B v) → IfOk r A → IfOk r B
ok_as (Ok v) A B f h = f v h
ok_as (Err e) A B f h = h
