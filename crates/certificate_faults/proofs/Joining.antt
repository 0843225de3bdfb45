-- What RETURNs give, joined for each answer.
use Rattle.std.proofs.Common.{◌≡◌, ◌⊎◌, inl, inr, ℕ, ◌+◌, ◌<◌, ◌≤◌, ◌↔◌, Bool, true, false, List}
use Rattle.std.proofs.Common.{[], ◌++◌, Contains, length, map, Some, slice_get, refl, sym, ap}
use Rattle.std.proofs.Common.{subst, ◌∙◌, arith}
use Rattle.std.specs.List.{AllByRecursion, range_with_len}
use Rattle.std.proofs.lemmas.Bool.{cases_lt, true≢false}
use Rattle.std.proofs.lemmas.Option.{none-some, same_Some, slice_get_past, slice_get_within}
use Rattle.exchange_model.specs.declared.exchange.Exchange.{Exchange}
use Rattle.exchange_model.specs.Fits.{retrieved}
use Rattle.exchange_model.specs.Kept.{IsExchange}
use Rattle.source_meaning.specs.Changes.{value_count}
use Rattle.flow_points.specs.declared.fact.Fact.{Fact}
use Rattle.flow_points.specs.declared.fact.Slot.{Slot}
use Rattle.flow_points.specs.declared.fact.Slot.TheVariants as slot
use Rattle.flow_points.specs.declared.fact.Value.{Value}
use Rattle.flow_points.specs.declared.flow.Passing.{Passing}
use Rattle.flow_points.specs.declared.flow.Passing.TheVariants.{Kept, Sets, Takes, Retrieves}
use Rattle.flow_points.specs.declared.flow.Passing.TheVariants.{Begins, Passes, Calls, Answers}
use Rattle.flow_points.specs.declared.flow.Source.{Source}
use Rattle.flow_points.specs.Facts.{Facts, Guarded, Reached, SourceGives, fact}
use Rattle.flow_points.specs.Places.{IsRetrieveAt, Place}
use Rattle.flow_points.specs.Slots.{HasSlot, IsSlotOf, answer_count}
use Rattle.flow_points.specs.Sources.{source_of}
use Rattle.flow_table.specs.declared.row.FlowTable.{FlowTable}
use Rattle.flow_table.specs.declared.row.Row.{Row}
use Rattle.flow_table.specs.declared.way.Ends.TheVariants as ends
use Rattle.flow_table.specs.declared.way.Way.{Way}
use Rattle.flow_table.specs.Giving.{HasGiven, SlotsGive}
use Rattle.flow_table.specs.Rows.{IsFlowTable}
use Rattle.flow_table.specs.Small.{IsSmall}
use Rattle.fact_flows.specs.declared.slots.Numbered.TheVariants as numbered
use Rattle.fact_flows.specs.Flows.{OneGives}
use Rattle.fact_flows.specs.Slots.{numbered_slot}
use Rattle.fact_flows.proofs.Flowing.{ways_small as ways_small_at}
use Rattle.fact_flows.proofs.Gathering.{given_as, given_none}
use Rattle.fact_flows.proofs.Peopled.{point_stands}
use Rattle.fact_flows.proofs.Slotting.{in_numbered, numbered_in}
use Rattle.answer_table.specs.declared.answers.AnswerTable.{AnswerTable}
use Rattle.answer_table.specs.Answers.{AreAnswers, awaited_at, is_answer, known_answer}
use Rattle.answer_table.proofs.Answering.{one_answer, retrieve_of}
use Rattle.certificate_faults.specs.Reached.{CoverReached}
use Rattle.certificate_faults.specs.Returned.{AreAnswered, AreReturned, IsAnswered, IsAnsweredAt}
use Rattle.certificate_faults.specs.Returned.{IsHandedOut, IsReturned, PointReturns, WayReturns}
use Rattle.certificate_faults.specs.Returned.{handed, returned_at}

-- answers

record IsAnswer (how : Passing) : Type 0 where
  values : List Source
  is : how ≡ Answers values

answer_is : (how : Passing) → is_answer how ≡ true → IsAnswer how
answer_is Kept so = absurd (true≢false (sym so))
answer_is (Sets temp new) so = absurd (true≢false (sym so))
answer_is (Takes temps) so = absurd (true≢false (sym so))
answer_is (Retrieves temps) so = absurd (true≢false (sym so))
answer_is (Begins values) so = absurd (true≢false (sym so))
answer_is (Passes count) so = absurd (true≢false (sym so))
answer_is (Calls values answer) so = absurd (true≢false (sym so))
answer_is (Answers values) so = record { values = values; is = refl }

pub guard : (P : Facts) (e p q : ℕ) (how : Passing) → is_answer how ≡ true → Reached P e q → Guarded P e p q how
guard P e p q how so reached = subst (Guarded P e p q) (sym (answer_is how so).is) reached

pub unguard : (P : Facts) (e p q : ℕ) (how : Passing) → is_answer how ≡ true → Guarded P e p q how → Reached P e q
unguard P e p q how so guarded = subst (Guarded P e p q) (answer_is how so).is guarded

slot_of_answer : (x : Exchange) (P : Facts) (e p n : ℕ) (values : List Source) (at : Place) (s : Slot) (v : Value)
    → SourceGives P e p (source_of (Answers values) s) v → retrieved at.layer ≡ Some n → IsSlotOf x at s
    → IsAnswered x n s
slot_of_answer x P e p n values at (slot.Temp t) v none awaits has = absurd none
slot_of_answer x P e p n values at (slot.Given k) v none awaits has = absurd none
slot_of_answer x P e p n values at (slot.Answered k) v gives awaits has = subst (λ o. k < answer_count x o) awaits has
slot_of_answer x P e p n values at slot.Depth v none awaits has = absurd none
slot_of_answer x P e p n values at slot.Awaits v none awaits has = absurd none

-- what comes to a RETRIEVE by an answer is of a slot of its values
pub answered_slot : (x : Exchange) (a : AnswerTable) (P : Facts) (e p q n : ℕ) (how : Passing) (s : Slot) (v : Value)
    → AreAnswers x a → is_answer how ≡ true → IsRetrieveAt x q n → HasSlot x q s → SourceGives P e p (source_of how s) v
    → IsAnswered x n s
answered_slot x a P e p q n how s v are so retrieve has gives =
    let awaits : retrieved has.place.layer ≡ Some n = same_Some (retrieved has.place.layer) (Some n)
    (sym (are.awaits q has.place has.stands) ∙ are.awaits q retrieve.place retrieve.stands
    ∙ ap Some retrieve.retrieves) in
    slot_of_answer x P e p n (answer_is how so).values has.place s v
    (subst (λ h. SourceGives P e p (source_of h s) v) (answer_is how so).is gives) awaits has.slot

pub slot_answered : (x : Exchange) (q n : ℕ) (s : Slot) → IsRetrieveAt x q n → IsAnswered x n s → HasSlot x q s
slot_answered x q n (slot.Temp t) retrieve none = absurd none
slot_answered x q n (slot.Given k) retrieve none = absurd none
slot_answered x q n (slot.Answered k) retrieve lt = record {
  place = retrieve.place;
  stands = retrieve.stands;
  slot = subst (λ o. k < answer_count x o) (sym retrieve.retrieves) lt;
}
slot_answered x q n slot.Depth retrieve none = absurd none
slot_answered x q n slot.Awaits retrieve none = absurd none

-- a list of these slots

numbered_answered : (x : Exchange) (n count : ℕ) (s : Slot) → count ≡ value_count x n
    → Contains (map (numbered_slot numbered.Answered) (range_with_len 0 count)) s → IsAnswered x n s
numbered_answered x n count s many c = (let i = in_numbered numbered.Answered count s c in subst (IsAnswered x n) i.is (subst (λ k. i.number < k) many i.below))

answered_numbered : (x : Exchange) (n count : ℕ) (s : Slot) → count ≡ value_count x n → IsAnswered x n s
    → Contains (map (numbered_slot numbered.Answered) (range_with_len 0 count)) s
answered_numbered x n count (slot.Temp t) many none = absurd none
answered_numbered x n count (slot.Given k) many none = absurd none
answered_numbered x n count (slot.Answered k) many lt = numbered_in numbered.Answered count k (subst (λ m. k < m) (sym many) lt)
answered_numbered x n count slot.Depth many none = absurd none
answered_numbered x n count slot.Awaits many none = absurd none

pub slots_answered : (x : Exchange) (n count : ℕ) (old new : List Slot) → old ≡ [] → count ≡ value_count x n
    → new ≡ old ++ map (numbered_slot numbered.Answered) (range_with_len 0 count) → AreAnswered x n new
slots_answered x n count old new none many is =
    let all = map (numbered_slot numbered.Answered) (range_with_len 0 count) in
    let own : new ≡ all = is ∙ ap (λ (l : List Slot). l ++ all) none in
    record {
      exact = λ s. (
        λ c. numbered_answered x n count s many (subst (λ l. Contains l s) own c),
        λ h. subst
            (λ l. Contains l s) (sym own) (answered_numbered x n count s many h),
      );
    }

-- what a way gives

pub apart : (listed : List ℕ) (n : ℕ) → ends.Points listed ≡ ends.Retrieves n → ⊥
apart listed n same = cc

pub way_points : (x : Exchange) (P : Facts) (e p : ℕ) (w : Way) (listed : List ℕ) (old : List Fact)
    → w.ends ≡ ends.Points listed → HasGiven old old (WayReturns x P e p w)
way_points x P e p w listed old is = given_none (WayReturns x P e p w) old (λ f h. apart listed f.point (sym is ∙ h.back.ends))

pub way_other : (x : Exchange) (P : Facts) (e p : ℕ) (w : Way) (b : Bool) (old : List Fact) → b ≡ is_answer w.how
    → b ≡ false → HasGiven old old (WayReturns x P e p w)
way_other x P e p w b old test none = given_none (WayReturns x P e p w) old (λ f h. true≢false (sym h.back.answers ∙ sym test ∙ none))

same_answer : (n m : ℕ) → ends.Retrieves n ≡ ends.Retrieves m → n ≡ m
same_answer n m same = cc

pub way_returns : (x : Exchange) (P : Facts) (e p : ℕ) (w : Way) (n : ℕ) (b : Bool) (slots list : List Slot)
    (old new : List Fact) → w.ends ≡ ends.Retrieves n → b ≡ is_answer w.how → b ≡ true → AreAnswered x n slots
    → list ≡ slots → HasGiven old new (SlotsGive P e p w.how n list) → HasGiven old new (WayReturns x P e p w)
way_returns x P e p w n b slots list old new leads test so are is given =
    given_as (SlotsGive P e p w.how n list) (WayReturns x P e p w) old new
    (λ f s. record {
      back = record { ends = leads ∙ ap ends.Retrieves (sym s.point); answers = sym test ∙ so };
      entry = s.entry;
      slot = subst (λ k. IsAnswered x k f.slot) (sym s.point) ((are.exact f.slot).0 (subst (λ l. Contains l f.slot) is s.slot));
      gives = s.gives;
    })
    (λ f r.
    let same : f.point ≡ n = same_answer f.point n (sym r.back.ends ∙ leads) in
    record {
      entry = r.entry;
      point = same;
      slot = subst (λ l. Contains l f.slot) (sym is) ((are.exact f.slot).1 (subst (λ k. IsAnswered x k f.slot) same r.slot));
      gives = r.gives;
    })
    given

-- what all ways from a point give

pub row_below : (x : Exchange) (t : FlowTable) (p : ℕ) (row : Row) → IsFlowTable x t → slice_get t.rows p ≡ Some row → p < length x.points
row_below x t p row table there = (let lt = slice_get_within t.rows p row there in let e = table.rows.each_point in omega (arith, lt, e))

pub ways_small : (x : Exchange) (t : FlowTable) (p : ℕ) (row : Row) (ways : List Way) → IsExchange x → IsFlowTable x t
    → slice_get t.rows p ≡ Some row → ways ≡ row.ways → AllByRecursion (λ (w : Way). IsSmall w.how) ways
ways_small x t p row ways kept table there is = ways_small_at x t p row ways kept table (row_below x t p row table there) there is

pub point_ways : (x : Exchange) (t : FlowTable) (P : Facts) (e p : ℕ) (row : Row) (ways : List Way)
    (old new : List Fact) → Reached P e p → slice_get t.rows p ≡ Some row → ways ≡ row.ways
    → HasGiven old new (OneGives (WayReturns x P e p) ways) → HasGiven old new (PointReturns x t P e p)
point_ways x t P e p row ways old new reached there is given =
    given_as (OneGives (WayReturns x P e p) ways) (PointReturns x t P e p) old new
    (λ f o. record { reached = reached; row = row; there = there; gives = subst (λ ws. OneGives (WayReturns x P e p) ws f) is o })
    (λ f r.
    let same : r.row ≡ row = same_Some r.row row (sym r.there ∙ there) in
    subst (λ ws. OneGives (WayReturns x P e p) ws f) (ap (λ (k : Row). k.ways) same ∙ sym is) r.gives)
    given

pub point_none : (x : Exchange) (t : FlowTable) (P : Facts) (e p : ℕ) (old : List Fact) → length t.rows ≤ p → HasGiven old old (PointReturns x t P e p)
point_none x t P e p old past = given_none (PointReturns x t P e p) old (λ f r. none-some r.row (sym (slice_get_past t.rows p past) ∙ r.there))

pub point_apart : (x : Exchange) (t : FlowTable) (P : Facts) (e p : ℕ) (b : Bool) (old : List Fact)
    → (b ≡ true) ↔ Reached P e p → (b ≡ true → ⊥) → HasGiven old old (PointReturns x t P e p)
point_apart x t P e p b old test none = given_none (PointReturns x t P e p) old (λ f r. none (test.1 r.reached))

-- what all RETURNs give

pub returned_exact : (x : Exchange) (t : FlowTable) (P : Facts) (reached old new sorted joined : List Fact)
    → CoverReached P reached → old ≡ [] → HasGiven old new (OneGives (returned_at x t P) reached)
    → ((f : Fact) → Contains sorted f ↔ Contains new f) → joined ≡ sorted → AreReturned x t P joined
returned_exact x t P reached old new sorted joined cover none given same is = subst (AreReturned x t P) (sym is)
    (record { exact = λ f. (λ c. to f ((same f).0 c), λ r. (same f).1 (from f r)) })
  where
    own : new ≡ given.added
    own = given.is ∙ ap (λ (l : List Fact). l ++ given.added) none

    to : (f : Fact) → Contains new f → IsReturned x t P f
    to f c =
        let o = given.each f (subst (λ l. Contains l f) own c) in
        let entry : f.entry ≡ o.one.entry = o.gives.gives.gives.entry in
        record { from = o.one.point; gives = subst (λ n. PointReturns x t P n o.one.point f) (sym entry) o.gives }

    from : (f : Fact) → IsReturned x t P f → Contains new f
    from f r =
        let here = cover f.entry r.from r.gives.reached in
        let gives : returned_at x t P here.one f = subst (λ n. PointReturns x t P n here.one.point f) (sym here.entry)
        (subst (λ n. PointReturns x t P f.entry n f) (sym here.point) r.gives) in
        subst (λ l. Contains l f) (sym own) (given.listed f (record { one = here.one; among = here.among; gives = gives }))

-- what a RETRIEVE gets

pub handed_out : (x : Exchange) (J : Facts) (e n q : ℕ) (slots list : List Slot) (old new : List Fact)
    → AreAnswered x n slots → list ≡ slots → HasGiven old new (OneGives (handed J e n q) list)
    → HasGiven old new (IsHandedOut x J e n q)
handed_out x J e n q slots list old new are is given =
    given_as (OneGives (handed J e n q) list) (IsHandedOut x J e n q) old new
    (λ f o. let own : o.one ≡ f.slot = sym o.gives.slot in
    record {
      entry = o.gives.entry;
      point = o.gives.point;
      slot = subst (IsAnswered x n) own ((are.exact o.one).0 (subst (λ l. Contains l o.one) is o.among));
      joined = subst (λ (s : Slot). J (fact e n s f.value)) own o.gives.gives;
    })
    (λ f h. record {
      one = f.slot;
      among = subst (λ l. Contains l f.slot) (sym is) ((are.exact f.slot).1 h.slot);
      gives = record { entry = h.entry; point = h.point; slot = refl; gives = h.joined };
    })
    given

awaited_below : (a : AnswerTable) (q n : ℕ) → awaited_at a q ≡ Some n → q < length a.awaited
awaited_below a q n is = by (cases_lt q (length a.awaited))
  where
    by : (q < length a.awaited) ⊎ (length a.awaited ≤ q) → q < length a.awaited
    by (inl lt) = lt
    by (inr past) = absurd (none-some n (sym (ap known_answer (slice_get_past a.awaited q past)) ∙ is))

pub answered : (x : Exchange) (t : FlowTable) (a : AnswerTable) (P : Facts) (e q n : ℕ) (joined old new : List Fact)
    → IsExchange x → AreAnswers x a → AreReturned x t P joined → Reached P e q → awaited_at a q ≡ Some n
    → HasGiven old new (IsHandedOut x (Contains joined) e n q) → HasGiven old new (IsAnsweredAt x t P e q)
answered x t a P e q n joined old new kept are returned reached awaits given =
    given_as (IsHandedOut x (Contains joined) e n q) (IsAnsweredAt x t P e q) old new to from given
  where
    retrieve : IsRetrieveAt x q n
    retrieve =
        let at = point_stands x kept q (let lt = awaited_below a q n awaits in let e = are.each_point in omega (arith, lt, e)) in
        retrieve_of x a are q n at.at at.stands awaits

    to : (f : Fact) → IsHandedOut x (Contains joined) e n q f → IsAnsweredAt x t P e q f
    to f h = record {
      entry = h.entry;
      point = h.point;
      reached = reached;
      answer = n;
      retrieve = retrieve;
      returned = (returned.exact (fact e n f.slot f.value)).0 h.joined;
    }

    from : (f : Fact) → IsAnsweredAt x t P e q f → IsHandedOut x (Contains joined) e n q f
    from f h =
        let same : h.answer ≡ n = one_answer x a are q h.answer n h.retrieve retrieve in
        let own : IsReturned x t P (fact e n f.slot f.value) = subst (λ m. IsReturned x t P (fact e m f.slot f.value)) same h.returned in
        record { entry = h.entry; point = h.point; slot = own.gives.gives.gives.slot; joined = (returned.exact (fact e n f.slot f.value)).1 own }
