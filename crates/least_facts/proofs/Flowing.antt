-- What goes along from a point, and that it is least.
use Rattle.std.proofs.Common.{◌≡◌, inl, inr, ℕ, zero, suc, ◌+◌, ◌<◌, ◌≤◌, ◌↔◌, Bool, true, false}
use Rattle.std.proofs.Common.{List, [], ◌∷◌, ◌++◌, length, map, Option, Some, None, slice_get, refl}
use Rattle.std.proofs.Common.{sym, ap, ◌∙◌, subst, arith}
use Rattle.std.specs.Prelude.{IsTrue}
use Rattle.std.specs.List.{AllByRecursion, Contains, range_with_len}
use Rattle.std.specs.Bool.{MatchBool}
use Rattle.std.specs.Prelude.{unwrap_or}
use Rattle.std.proofs.lemmas.List.{length-map}
use Rattle.std.proofs.lemmas.Bool.{cases_lt, true≢false}
use Rattle.std.proofs.lemmas.List.FromFn.{length-range_with_len, map-range_with_len_more}
use Rattle.std.proofs.lemmas.Option.{none-some, same_Some, slice_get_past, slice_get_within}
use Rattle.plex_num.proofs.Lists.{all_here}
use Rattle.exchange_model.specs.declared.exchange.Exchange.{Exchange}
use Rattle.exchange_model.specs.Fits.{retrieved}
use Rattle.exchange_model.specs.Kept.{IsExchange}
use Rattle.flow_points.specs.declared.fact.Fact.{Fact}
use Rattle.flow_points.specs.declared.fact.Slot.{Slot}
use Rattle.flow_points.specs.declared.fact.Slot.TheVariants.{Temp, Given, Answered, Depth, Awaits}
use Rattle.flow_points.specs.declared.fact.Value.{Value}
use Rattle.flow_points.specs.declared.flow.Passing.{Passing}
use Rattle.flow_points.specs.declared.flow.Passing.TheVariants.{Answers}
use Rattle.flow_points.specs.declared.flow.Source.{Source}
use Rattle.flow_points.specs.declared.flow.Source.TheVariants.{Of, Nothing}
use Rattle.flow_points.specs.Facts.{Facts, fact, Guarded, IsLeast, Reached, SourceGives}
use Rattle.flow_points.specs.Flows.{LeadsTo}
use Rattle.flow_points.specs.Places.{IsRetrieveAt}
use Rattle.flow_points.specs.Slots.{HasSlot, answer_count}
use Rattle.flow_points.specs.Sources.{answers, at_place, source_of}
use Rattle.flow_points.proofs.Least.{least_closed}
use Rattle.flow_table.specs.declared.row.Row.{Row}
use Rattle.flow_table.specs.declared.row.FlowTable.{FlowTable}
use Rattle.flow_table.specs.declared.way.Ends.TheVariants as ends
use Rattle.flow_table.specs.declared.way.Way.{Way}
use Rattle.flow_table.specs.Rows.{IsRowOf, IsFlowTable}
use Rattle.flow_table.specs.Small.{IsSmall}
use Rattle.flow_table.specs.Ways.{IsWayEnd}
use Rattle.flow_table.proofs.Rowing.{place_fits}
use Rattle.flow_table.proofs.Slotted.{row_of}
use Rattle.fact_flows.specs.Flows.{FlowsTo, OneGives, WayGives}
use Rattle.fact_flows.proofs.Flowing.{ways_give, ways_small}
use Rattle.fact_flows.proofs.Peopled.{point_stands}
use Rattle.fact_rows.specs.Known.{AddsFact, Fits, Knows, BitRows, missing}
use Rattle.answer_table.specs.declared.answers.AnswerTable.{AnswerTable}
use Rattle.answer_table.specs.Answers.{AreAnswers, IsFact, answer_way, awaited_at, is_answer}
use Rattle.answer_table.specs.Answers.{known_answer}
use Rattle.least_facts.specs.Fit.{NumberedSource}
use Rattle.least_facts.specs.Giving.{CanFlow, FillsPoint, IsGood, IsOwnLeast}
use Rattle.least_facts.specs.Growing.{Goes, HandedFrom, IsHandedBy, Search, SentFrom, IsLeastSoFar}
use Rattle.least_facts.specs.Growing.{WaySends, Went, handing_of}
use Rattle.least_facts.specs.Marks.{IsNoted, Settles}
use Rattle.least_facts.proofs.Fitting.{least_fits}
use Rattle.least_facts.proofs.Filling.{fact_given, fills_given, flows_more}
use Rattle.least_facts.proofs.Growing.{answer_least, answer_low, settled_goes, went_as, went_none}
use Rattle.answer_table.proofs.Answering.{awaited_of, one_answer}
use Rattle.least_facts.proofs.Marking.{known_is}
use Rattle.least_facts.proofs.Numbering.{answers_fit, leads_fit}

-- ---- one flow

module _ (x : Exchange) (t : FlowTable) (a : AnswerTable) (e p : ℕ) (how : Passing) (q : ℕ) (s : Search) (stands : IsLeastSoFar x t e s) where
  pub can_flow : (b : Bool) → IsGood x e p how q → (IsTrue b ↔ Guarded (Knows s.rows) e p q how) → b ≡ true → CanFlow x t e p how q s.rows
  can_flow b good test on = record { of_entry = stands.of_entry; of_slots = stands.of_slots; least = stands.least; good = good; guarded = test.0 on }

  pub not_guarded : (b : Bool) → (IsTrue b ↔ Guarded (Knows s.rows) e p q how) → b ≡ false → Went x t a e (FlowsTo x (Knows s.rows) e p how q) s s
  not_guarded b test off = went_none x t a e (FlowsTo x (Knows s.rows) e p how q) s stands (λ f h. true≢false (sym (test.1 h.guarded) ∙ off))

  pub flowed : (kept : IsExchange x) (are : AreAnswers x a) (grown noted : Bool) (k : BitRows) (m : List ℕ)
      (firsts : List (Option ℕ)) → FillsPoint x e p how q s.rows grown k → (IsTrue noted → IsNoted a s.rows e q)
      → Settles a k e grown noted q s.marks s.firsts m firsts
      → Went x t a e (FlowsTo x (Knows s.rows) e p how q) s (record { rows = k; marks = m; firsts = firsts })
  flowed kept are grown noted k m firsts filled test settles = record {
    goes = settled_goes x t a e kept are s k q stands m firsts grown noted filled.fills.fills test settles;
    all = λ f h. filled.fills.all f (record { entry = h.entry; point = h.point; slot = (filled.all.exact f.slot).1 h.slot; gives = h.gives });
  }

-- a fact is added
pub added : (x : Exchange) (t : FlowTable) (a : AnswerTable) (e : ℕ) (kept : IsExchange x) (are : AreAnswers x a)
    (s : Search) (stands : IsLeastSoFar x t e s) (f : Fact) (least : IsOwnLeast x e f) (grown noted : Bool)
    (k : BitRows) (m : List ℕ) (firsts : List (Option ℕ)) → (IsTrue noted → IsNoted a s.rows e f.point)
    → AddsFact f s.rows k → MatchBool grown (missing k + 1 ≡ missing s.rows) (k ≡ s.rows)
    → Settles a k e grown noted f.point s.marks s.firsts m firsts
    → Went x t a e (IsFact f) s (record { rows = k; marks = m; firsts = firsts })
added x t a e kept are s stands f least grown noted k m firsts test adds counted settles = record {
  goes = settled_goes x t a e kept are s k f.point stands m firsts grown noted
      (fills_given x f.point s.rows k (IsFact f) grown (fact_given s.rows k f grown adds counted)
      (λ h is. (ap (λ (z : Fact). z.point) is, subst (IsLeast x) (sym is) least.least))) test settles;
  all = λ h is. (adds.knows h).1 (inl is);
}

pub own_entry : (x : Exchange) (t : FlowTable) (e : ℕ) (s : Search) (f : Fact) → IsLeastSoFar x t e s → IsOwnLeast x e f → f.entry ≡ s.rows.entry
own_entry x t e s f stands least = least.entry ∙ sym stands.of_entry

pub own_fits : (x : Exchange) (t : FlowTable) (e : ℕ) (s : Search) (f : Fact) → IsExchange x → IsFlowTable x t
    → IsLeastSoFar x t e s → IsOwnLeast x e f → Fits s.rows.marks.slots f
own_fits x t e s f kept table stands least = subst (λ l. Fits l f) (sym stands.of_slots) (least_fits t x kept table f least.least)

-- ---- what is good to send

-- ways of a row of a point that is reached
module _ (x : Exchange) (t : FlowTable) (e p : ℕ) (kept : IsExchange x) (table : IsFlowTable x t) (r : Row) (there : slice_get t.rows p ≡ Some r) where
  below : p < length x.points
  below = (let lt = slice_get_within t.rows p r there in let all = table.rows.each_point in omega (arith, lt, all))

  pub ways_good : (k : BitRows) → ((f : Fact) → Knows k f → IsLeast x f) → Reached (Knows k) e p → (ways : List Way)
      → ways ≡ r.ways → (w : Way) → Contains ways w → (q : ℕ) → IsWayEnd x w.ends q → IsGood x e p w.how q
  ways_good k least reached ways same w one q end =
      let at = point_stands x kept p below in
      let is : IsRowOf x at.at r = row_of x t p r at.at table there at.stands in
      let own : Contains r.ways w = subst (λ l. Contains l w) same one in
      let leads : LeadsTo x at.at q w.how = (is.ways.exact q w.how).0 (record { way = w; one = own; leads = record { end = end; is = refl } }) in
      record {
        least = λ f h. least_closed x f (inr (
          p,
          (ways_give x (IsLeast x) e p at.at r at.stands is (reached.0, least (fact e p Depth reached.0) reached.1) f
              (record { one = w; among = own; gives = record { end = q; ends = end; flows = h } })).gives,
        ));
        fits = leads_fit x kept at.at.block at.at.point at.at.next at.at.layer q w.how (place_fits x at.at kept at.stands.place) leads;
        small = all_here (λ (v : Way). IsSmall v.how) r.ways own.0 w (ways_small x t p r r.ways kept table below there refl) own.1 (sym own.2);
      }

  -- what the ways send is all that is sent
  pub sent_by : (firsts : List (Option ℕ)) (k : BitRows) (ways : List Way) → ways ≡ r.ways → (f : Fact)
      → SentFrom x firsts (Knows k) e p f → OneGives (WaySends x firsts (Knows k) e p) ways f
  sent_by firsts k ways same f h =
      let g = h.given.gives in
      let w = ((row_of x t p r g.at table there g.stands).ways.exact f.point g.how).1 g.flow.leads in
      let how : g.how ≡ w.way.how = w.leads.is in
      let entry : f.entry ≡ e = h.given.entry in
      let here : g.at.point ≡ p = g.stands.here in
      record {
        one = w.way;
        among = subst (λ l. Contains l w.way) (sym same) w.one;
        gives = record {
          end = f.point;
          ends = w.leads.end;
          first = λ is. h.first (ap is_answer how ∙ is);
          flows = record {
            entry = entry;
            point = refl;
            guarded = subst (λ o. Guarded (Knows k) e p f.point o) how
                (subst (λ n. Guarded (Knows k) n p f.point g.how) entry
                (subst (λ n. Guarded (Knows k) f.entry n f.point g.how) here g.flow.guarded));
            slot = g.flow.slot;
            gives = subst (λ (o : Passing). SourceGives (Knows k) e p (source_of o f.slot) f.value) how
                (subst (λ n. SourceGives (Knows k) n p (source_of g.how f.slot) f.value) entry
                (subst (λ n. SourceGives (Knows k) f.entry n (source_of g.how f.slot) f.value) here g.flow.gives));
          };
        };
      }

  pub row_answers : (n : ℕ) → IsRetrieveAt x p n → r.answered ≡ answer_count x (Some n)
  row_answers n w = (row_of x t p r w.place table there w.stands).answered ∙ ap (answer_count x) w.retrieves

-- ---- an answer goes to the first RETRIEVE

module _ (x : Exchange) (t : FlowTable) (a : AnswerTable) (e p : ℕ) (how : Passing) (n : ℕ) (are : AreAnswers x a)
    (s : Search) (stands : IsLeastSoFar x t e s) where
  -- the first RETRIEVE is the one that is found
  first_is : (u : Option ℕ) → u ≡ known_answer (slice_get s.firsts n) → (f : Fact) → is_answer how ≡ true
      → (h : WaySends x s.firsts (Knows s.rows) e p (answer_way how n) f) → u ≡ Some h.end
  first_is u known f is h =
      let first = h.first is in
      let same : first.answer ≡ n = one_answer x a are h.end first.answer n (stands.retrieve first.answer h.end first.is) h.ends in
      known ∙ ap known_answer (subst (λ i. slice_get s.firsts i ≡ Some (Some h.end)) same first.is)

  pub none_first : (u : Option ℕ) → u ≡ known_answer (slice_get s.firsts n) → u ≡ None → is_answer how ≡ true
      → Went x t a e (WaySends x s.firsts (Knows s.rows) e p (answer_way how n)) s s
  none_first u known none is = went_none x t a e (WaySends x s.firsts (Knows s.rows) e p (answer_way how n)) s stands
      (λ f h. none-some h.end (sym none ∙ first_is u known f is h))

  pub to_first : (u : Option ℕ) (q : ℕ) (new : Search) → u ≡ known_answer (slice_get s.firsts n) → u ≡ Some q
      → is_answer how ≡ true → Went x t a e (FlowsTo x (Knows s.rows) e p how q) s new
      → Went x t a e (WaySends x s.firsts (Knows s.rows) e p (answer_way how n)) s new
  to_first u q new known some is went =
      went_as x t a e (FlowsTo x (Knows s.rows) e p how q) (WaySends x s.firsts (Knows s.rows) e p (answer_way how n)) s new
      (λ f h. subst (λ z. FlowsTo x (Knows s.rows) e p how z f) (same_Some h.end q (sym (first_is u known f is h) ∙ some)) h.flows) went

  pub first_good : (u : Option ℕ) (q : ℕ) → u ≡ known_answer (slice_get s.firsts n) → u ≡ Some q
      → ((r : ℕ) → IsRetrieveAt x r n → IsGood x e p how r) → IsGood x e p how q
  first_good u q known some good = good q (stands.retrieve n q (known_is (slice_get s.firsts n) q (sym known ∙ some)))

-- ---- all RETRIEVEs of an answer

module _ (x : Exchange) (t : FlowTable) (a : AnswerTable) (e p : ℕ) (how : Passing) (n : ℕ) (table : IsFlowTable x t) where
  pub retrieves_good : (listed points : List ℕ) → slice_get t.retrieves n ≡ Some listed → points ≡ listed
      → ((q : ℕ) → IsRetrieveAt x q n → IsGood x e p how q) → (q : ℕ) → Contains points q → IsGood x e p how q
  retrieves_good listed points there same good q c = good q (((table.retrieves.exact n listed there).exact q).0 (subst (λ l. Contains l q) same c))

  pub to_retrieves : (P : Facts) (listed points : List ℕ) (s new : Search) → slice_get t.retrieves n ≡ Some listed
      → points ≡ listed → Went x t a e (OneGives (FlowsTo x P e p how) points) s new
      → Went x t a e (WayGives x P e p (answer_way how n)) s new
  to_retrieves P listed points s new there same went =
      went_as x t a e (OneGives (FlowsTo x P e p how) points) (WayGives x P e p (answer_way how n)) s new
      (λ f h. record {
        one = h.end;
        among = subst (λ l. Contains l h.end) (sym same)
            (((table.retrieves.exact n listed there).exact h.end).1 h.ends);
        gives = h.flows;
      }) went

  pub no_retrieves : IsExchange x → AreAnswers x a → (P : Facts) (s : Search) → IsLeastSoFar x t e s
      → length t.retrieves ≤ n → Went x t a e (WayGives x P e p (answer_way how n)) s s
  no_retrieves kept are P s stands past =
      went_none x t a e (WayGives x P e p (answer_way how n)) s stands
      (λ f h. let low = answer_low x a are h.end n kept h.ends in let many = table.retrieves.each_signal in omega (arith, low, many, past))

-- ---- handing out

pub handing_more : (k : ℕ) (now new : List Source) → new ≡ now ++ Of (Answered k) ∷ [] → now ≡ handing_of k → new ≡ handing_of (k + 1)
handing_more k now new pushed is = (let e : 0 + k ≡ k = omega arith in pushed ∙ ap (λ l. l ++ Of (Answered k) ∷ []) is
    ∙ sym (map-range_with_len_more (λ i. Of (Answered i)) 0 k k e))

handing_numbered : (start count : ℕ) → AllByRecursion NumberedSource (map (λ k. Of (Answered k)) (range_with_len start count))
handing_numbered start zero = tt
handing_numbered start (suc n) = (λ v h. h, handing_numbered (start + 1) n)

handing_get : (start count k : ℕ) → k < count → slice_get (map (λ i. Of (Answered i)) (range_with_len start count)) k ≡ Some (Of (Answered (start + k)))
handing_get start zero k lt = absurd (omega (arith, lt))
handing_get start (suc n) zero lt = ap (λ i. Some (Of (Answered i))) (let same : start ≡ start + 0 = omega arith in same)
handing_get start (suc n) (suc k) lt = handing_get (start + 1) n k (omega (arith, lt))
    ∙ ap (λ i. Some (Of (Answered i))) (let same : start + 1 + k ≡ start + suc k = omega arith in same)

handing_at : (count k : ℕ) → k < count → at_place (handing_of count) k Nothing ≡ Of (Answered k)
handing_at count k lt = ap (λ o. unwrap_or o Nothing) (handing_get 0 count k lt) ∙ ap (λ i. Of (Answered i)) (let same : 0 + k ≡ k = omega arith in same)

handing_past : (count k : ℕ) → count ≤ k → at_place (handing_of count) k Nothing ≡ Nothing
handing_past count k le = ap (λ o. unwrap_or o Nothing)
    (slice_get_past (handing_of count) k (let long = length-map (range_with_len 0 count) (λ i. Of (Answered i)) in let
    all = length-range_with_len 0 count in omega (arith, long, all, le)))

handing_known : (P : Facts) (e p count k : ℕ) (v : Value) → SourceGives P e p (at_place (handing_of count) k Nothing) v → P (fact e p (Answered k) v)
handing_known P e p count k v gives = elim (cases_lt k count) as (λ _. P (fact e p (Answered k) v)) [
  | inl lt ↦ subst (λ o. SourceGives P e p o v) (handing_at count k lt) gives
  | inr past ↦ absurd (subst (λ o. SourceGives P e p o v) (handing_past count k past) gives)
]

module _ (x : Exchange) (t : FlowTable) (a : AnswerTable) (e p : ℕ) (are : AreAnswers x a) where
  handed_least : (q n count : ℕ) (f : Fact) → IsRetrieveAt x p n → IsRetrieveAt x q n → FlowsTo x (IsLeast x) e p (Answers (handing_of count)) q f → IsLeast x f
  handed_least q n count f first other h = by f.slot refl h.gives
    where
      by : (u : Slot) → f.slot ≡ u → SourceGives (IsLeast x) e p (answers (handing_of count) f.slot) f.value → IsLeast x f
      by (Answered k) is gives =
          let path : f ≡ fact e q (Answered k) f.value = (λ i. record { entry = h.entry i; point = h.point i; slot = is i; value = f.value }) in
          subst (IsLeast x) (sym path)
          (answer_least x a are e p q n k f.value first other h.guarded (subst (HasSlot x q) is h.slot)
          (handing_known (IsLeast x) e p count k f.value (subst (λ u. SourceGives (IsLeast x) e p (answers (handing_of count) u) f.value) is gives)))
      by (Temp i) is gives = absurd (subst (λ u. SourceGives (IsLeast x) e p (answers (handing_of count) u) f.value) is gives)
      by (Given i) is gives = absurd (subst (λ u. SourceGives (IsLeast x) e p (answers (handing_of count) u) f.value) is gives)
      by Depth is gives = absurd (subst (λ u. SourceGives (IsLeast x) e p (answers (handing_of count) u) f.value) is gives)
      by Awaits is gives = absurd (subst (λ u. SourceGives (IsLeast x) e p (answers (handing_of count) u) f.value) is gives)

  module _ (s : Search) (stands : IsLeastSoFar x t e s) where
    pub none_handed : (u : Option ℕ) → IsHandedBy a s.firsts p u → u ≡ None → Went x t a e (HandedFrom x s.firsts (Knows s.rows) e p) s s
    none_handed u is none = went_none x t a e (HandedFrom x s.firsts (Knows s.rows) e p) s stands
        (λ f h. subst (IsHandedBy a s.firsts p) none is h.answer
        (awaited_of x a are p h.answer (stands.retrieve h.answer p h.first)) h.first)

    module _ (u : Option ℕ) (n count : ℕ) (values : List Source) (is : IsHandedBy a s.firsts p u) (some : u ≡ Some n)
        (values_are : values ≡ handing_of count) where
      own : slice_get s.firsts n ≡ Some (Some p)
      own = (subst (IsHandedBy a s.firsts p) some is).1

      pub hand_good : (q : ℕ) → IsRetrieveAt x q n → IsGood x e p (Answers values) q
      hand_good q w = subst (λ l. IsGood x e p (Answers l) q) (sym values_are) (record {
        least = λ f h. handed_least q n count f (stands.retrieve n p own) w h;
        fits = answers_fit (handing_of count) (handing_numbered 0 count);
        small = tt;
      })

      pub to_handed : (new : Search) → ((m : ℕ) → IsRetrieveAt x p m → count ≡ answer_count x (Some m))
          → Went x t a e (WayGives x (Knows s.rows) e p (answer_way (Answers values) n)) s new
          → Went x t a e (HandedFrom x s.firsts (Knows s.rows) e p) s new
      to_handed new many went = went_as x t a e (WayGives x (Knows s.rows) e p (answer_way (Answers values) n))
          (HandedFrom x s.firsts (Knows s.rows) e p) s new by went
        where
          by : (f : Fact) → HandedFrom x s.firsts (Knows s.rows) e p f → WayGives x (Knows s.rows) e p (answer_way (Answers values) n) f
          by f h =
              let at : IsRetrieveAt x p n = stands.retrieve n p own in
              let same : h.answer ≡ n = one_answer x a are p h.answer n (stands.retrieve h.answer p h.first) at in
              let other : IsRetrieveAt x f.point n = subst (IsRetrieveAt x f.point) same h.retrieve in
              let has : HasSlot x f.point (Answered h.k) = subst (HasSlot x f.point) h.slot h.has in
              let awaits : retrieved has.place.layer
              ≡ Some n = sym (ap known_answer (are.awaits f.point has.place has.stands))
              ∙ awaited_of x a are f.point n other in
              let low : h.k < count = subst (λ c. h.k < c) (sym (many n at)) (subst (λ o. h.k < answer_count x o) awaits has.slot) in
              let known : Knows s.rows (fact e p (Answered h.k) f.value) = subst (λ z. Knows s.rows (fact e p z f.value)) h.slot h.known in
              let gives : SourceGives (Knows s.rows) e p (at_place (handing_of count) h.k Nothing) f.value = subst
              (λ o. SourceGives (Knows s.rows) e p o f.value) (sym (handing_at count h.k low)) known in
              record {
                end = f.point;
                ends = other;
                flows = record {
                  entry = h.entry;
                  point = refl;
                  guarded = h.reached;
                  slot = h.has;
                  gives = subst (λ z. SourceGives (Knows s.rows) e p (answers values z) f.value) (sym h.slot)
                      (subst (λ l. SourceGives (Knows s.rows) e p (answers l (Answered h.k)) f.value) (sym values_are)
                      gives);
                };
              }

-- ---- which answer is handed out

module _ (a : AnswerTable) (firsts : List (Option ℕ)) (p : ℕ) (o : Option ℕ) (is : o ≡ awaited_at a p) where
  pub awaits_none : o ≡ None → (n : ℕ) → awaited_at a p ≡ Some n → slice_get firsts n ≡ Some (Some p) → ⊥
  awaits_none none n awaits there = none-some n (sym none ∙ is ∙ awaits)

  module _ (n : ℕ) (some : o ≡ Some n) (u : Option ℕ) (known : u ≡ known_answer (slice_get firsts n)) where
    first_there : (m : ℕ) → awaited_at a p ≡ Some m → slice_get firsts m ≡ Some (Some p) → u ≡ Some p
    first_there m awaits there = known ∙ ap known_answer (subst (λ i. slice_get firsts i ≡ Some (Some p)) (same_Some m n (sym awaits ∙ sym is ∙ some)) there)

    pub hands_itself : (first : ℕ) → u ≡ Some first → first ≡ p → (awaited_at a p ≡ Some n) × (slice_get firsts n ≡ Some (Some p))
    hands_itself first there same = (sym is ∙ some, known_is (slice_get firsts n) p (sym known ∙ there ∙ ap Some same))

    pub hands_other : (first : ℕ) → u ≡ Some first → (first ≡ p → ⊥) → (m : ℕ) → awaited_at a p ≡ Some m → slice_get firsts m ≡ Some (Some p) → ⊥
    hands_other first there apart m awaits own = apart (same_Some first p (sym there ∙ first_there m awaits own))

    pub hands_none : u ≡ None → (m : ℕ) → awaited_at a p ≡ Some m → slice_get firsts m ≡ Some (Some p) → ⊥
    hands_none none m awaits own = none-some p (sym none ∙ first_there m awaits own)

-- ---- ways

module _ (x : Exchange) (t : FlowTable) (a : AnswerTable) (e p : ℕ) (s new : Search) (w : Way) where
  pub sent_points : (P : Facts) (firsts : List (Option ℕ)) (listed points : List ℕ) → w.ends ≡ ends.Points listed
      → points ≡ listed → Went x t a e (OneGives (FlowsTo x P e p w.how) points) s new
      → Went x t a e (WaySends x firsts P e p w) s new
  sent_points P firsts listed points is same went =
      went_as x t a e (OneGives (FlowsTo x P e p w.how) points) (WaySends x firsts P e p w) s new
      (λ f h. record { one = h.end; among = subst (λ l. Contains l h.end) (sym same) (subst (λ o. IsWayEnd x o h.end) is h.ends); gives = h.flows }) went

  pub points_good : (listed points : List ℕ) → w.ends ≡ ends.Points listed → points ≡ listed
      → ((q : ℕ) → IsWayEnd x w.ends q → IsGood x e p w.how q) → (q : ℕ) → Contains points q → IsGood x e p w.how q
  points_good listed points is same good q c = good q (subst (λ o. IsWayEnd x o q) (sym is) (subst (λ l. Contains l q) same c))

  pub answers_good : (n : ℕ) → w.ends ≡ ends.Retrieves n → ((q : ℕ) → IsWayEnd x w.ends q → IsGood x e p w.how q)
      → (q : ℕ) → IsRetrieveAt x q n → IsGood x e p w.how q
  answers_good n is good q c = good q (subst (λ o. IsWayEnd x o q) (sym is) c)

  way_is : (n : ℕ) → w.ends ≡ ends.Retrieves n → answer_way w.how n ≡ w
  way_is n is = λ i. record { how = w.how; ends = sym is i }

  pub sent_first : (P : Facts) (firsts : List (Option ℕ)) (n : ℕ) → w.ends ≡ ends.Retrieves n
      → Went x t a e (WaySends x firsts P e p (answer_way w.how n)) s new
      → Went x t a e (WaySends x firsts P e p w) s new
  sent_first P firsts n is went = subst (λ v. Went x t a e (WaySends x firsts P e p v) s new) (way_is n is) went

  pub sent_retrieves : (P : Facts) (firsts : List (Option ℕ)) (n : ℕ) → w.ends ≡ ends.Retrieves n
      → Went x t a e (WayGives x P e p (answer_way w.how n)) s new → Went x t a e (WaySends x firsts P e p w) s new
  sent_retrieves P firsts n is went =
      went_as x t a e (WayGives x P e p w) (WaySends x firsts P e p w) s new (λ f h. record { end = h.end; ends = h.ends; flows = h.flows })
      (subst (λ v. Went x t a e (WayGives x P e p v) s new) (way_is n is) went)

-- what a way sends by less it sends by more
pub sends_more : (x : Exchange) (t : FlowTable) (a : AnswerTable) (e p : ℕ) (s m : Search) → Goes x t a e s m
    → (w : Way) (f : Fact) → WaySends x s.firsts (Knows s.rows) e p w f → WaySends x m.firsts (Knows m.rows) e p w f
sends_more x t a e p s m goes w f h = record {
  end = h.end;
  ends = h.ends;
  first = λ is. (let first = h.first is in record { answer = first.answer; is = goes.kept first.answer h.end first.is });
  flows = flows_more x (Knows s.rows) (Knows m.rows) e p w.how h.end f goes.more h.flows;
}
