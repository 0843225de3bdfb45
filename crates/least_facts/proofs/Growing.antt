-- How a search goes on, and that all that is least is known where nothing is marked.
use Rattle.std.proofs.Common.{◌≡◌, ◌⊎◌, inl, inr, ⊎_elim, ℕ, zero, suc, ◌+◌, ◌*◌, ◌<◌, ◌≤◌, Bool}
use Rattle.std.proofs.Common.{true, false, nat_eq, nat_lt, if◌then◌else◌, List, [], ◌∷◌, ◌++◌}
use Rattle.std.proofs.Common.{length, take, get_or, replicate, Option, Some, None, slice_get, refl}
use Rattle.std.proofs.Common.{sym, ap, ◌∙◌, subst, arith}
use Rattle.std.specs.Prelude.{◌↔◌, IsTrue}
use Rattle.std.specs.List.{Contains}
use Rattle.std.specs.List.Sorted.{IsStrictlySortedBy}
use Rattle.std.proofs.Math.Nat.{mul-le-mul_right, suc-mul}
use Rattle.std.proofs.lemmas.Bool.{eqb-true, eqb-false, cases_lt, true≢false}
use Rattle.std.proofs.lemmas.List.{length-replicate, take_all}
use Rattle.std.proofs.lemmas.Option.{none-some, same_Some, slice_get_past}
use Rattle.plex_num.proofs.Members.{first_or_later, none_in, first_is, later_is}
use Rattle.plex_num.proofs.Lists.{some_at}
use Rattle.exchange_model.specs.declared.exchange.Exchange.{Exchange}
use Rattle.exchange_model.specs.Fits.{retrieved}
use Rattle.exchange_model.specs.Kept.{IsExchange}
use Rattle.source_meaning.specs.Changes.{value_count}
use Rattle.source_meaning.specs.Named.{Layer}
use Rattle.source_meaning.proofs.Fitting.{answer_below}
use Rattle.flow_points.specs.declared.fact.Fact.{Fact}
use Rattle.flow_points.specs.declared.fact.Slot.{Slot}
use Rattle.flow_points.specs.declared.fact.Slot.TheVariants.{Temp, Given, Answered, Depth, Awaits}
use Rattle.flow_points.specs.declared.fact.Value.{Value}
use Rattle.flow_points.specs.declared.fact.Value.TheVariants.{Arg, Const}
use Rattle.flow_points.specs.declared.flow.Passing.{Passing}
use Rattle.flow_points.specs.declared.flow.Passing.TheVariants.{Kept, Sets, Takes, Retrieves}
use Rattle.flow_points.specs.declared.flow.Passing.TheVariants.{Begins, Passes, Calls, Answers}
use Rattle.flow_points.specs.declared.flow.Source.{Source}
use Rattle.flow_points.specs.declared.flow.Source.TheVariants.{Is}
use Rattle.flow_points.specs.Facts.{Facts, fact, Gives, Guarded, IsClosed, IsLeast, Reached}
use Rattle.flow_points.specs.Facts.{SourceGives, StartGives, PointGives}
use Rattle.flow_points.specs.Flows.{Leads, LeadsTo}
use Rattle.flow_points.specs.Places.{IsRetrieveAt, Place, StandsAt}
use Rattle.flow_points.specs.Slots.{HasSlot, answer_count}
use Rattle.flow_points.specs.Sources.{source_of, start_source}
use Rattle.flow_points.proofs.Least.{derived_in, gives_more, least_closed, least_in, point_alike}
use Rattle.flow_points.proofs.Least.{source_alike}
use Rattle.flow_points.specs.Orders.{fact_order}
use Rattle.flow_table.specs.declared.row.FlowTable.{FlowTable}
use Rattle.flow_table.specs.declared.way.Ends.{Ends}
use Rattle.flow_table.specs.declared.way.Way.{Way}
use Rattle.flow_table.specs.Giving.{HasGiven}
use Rattle.flow_table.specs.Rows.{IsFlowTable}
use Rattle.flow_table.specs.Shapes.{Shape, Stays, Assigns, Finds, TakesGiven, TakesAnswer, Starts}
use Rattle.flow_table.specs.Shapes.{Transfers, Asks, GivesAnswer}
use Rattle.flow_table.specs.Ways.{IsWayEnd}
use Rattle.flow_table.proofs.Rowing.{place_fits}
use Rattle.flow_table.proofs.Shaping.{led_by}
use Rattle.fact_flows.specs.Flows.{OneGives}
use Rattle.fact_flows.specs.Given.{GivenAtStart}
use Rattle.fact_rows.specs.declared.place.Counts.{Counts}
use Rattle.fact_rows.specs.Known.{AreFacts, KnowNothing, Knows, BitRows, missing, slots_of}
use Rattle.least_facts.specs.declared.analyser.Analyser.{Analyser}
use Rattle.answer_table.specs.declared.answers.AnswerTable.{AnswerTable}
use Rattle.least_facts.specs.declared.looks.Looked.{Looked}
use Rattle.least_facts.specs.declared.looks.Looked.TheVariants.{Whole, Over}
use Rattle.answer_table.specs.Answers.{AreAnswers, IsFact, IsReturnAt, ReturnsOf, awaited_at}
use Rattle.answer_table.specs.Answers.{is_answer, returned}
use Rattle.answer_table.proofs.Answering.{awaited_of, one_answer, retrieve_of}
use Rattle.least_facts.specs.Giving.{Fills, IsOwnLeast}
use Rattle.least_facts.specs.Growing.{AreFound, Goes, GoesOn, HandedFrom, IsFirst, IsNew, IsVisited}
use Rattle.least_facts.specs.Growing.{Search, Searches, SentFrom, IsLeastSoFar, Went, without}
use Rattle.least_facts.specs.Marks.{HasFirst, IsNoted, Settles, most_marks}
use Rattle.least_facts.specs.Least.{HasLearned, KnowLeast}
use Rattle.least_facts.specs.Looks.{FindsWithin}
use Rattle.least_facts.proofs.Filling.{before_or_here, guard_by, none_yet}

-- to which RETRIEVEs an answer flows

-- an answer is returned, awaited at the other end, and goes to all that await it
pub record ReturnsFrom (x : Exchange) (b p : ℕ) (next : Option ℕ) (l : Layer) (q : ℕ) (how : Passing) : Type 0 where
  pub answer : ℕ
  pub returns : returned l ≡ Some answer
  pub awaits : IsRetrieveAt x q answer
  pub others : (r : ℕ) → IsRetrieveAt x r answer → Leads x b p next l r how

other : {A : Type 0} (values : List Source) (made : Passing) → Answers values ≡ made → is_answer made ≡ false → A
other values made is no_answer = absurd (let clash : true ≡ false = ap is_answer is ∙ no_answer in cc)

pub answered : (x : Exchange) (b p : ℕ) (next : Option ℕ) (l : Layer) (q : ℕ) (values : List Source)
    → Leads x b p next l q (Answers values) → ReturnsFrom x b p next l q (Answers values)
answered x b p next l q values g =
    let led = led_by x (record { block = b; point = p; layer = l; next = next }) q (Answers values) g in
    by led.way led.shape led.leads.is led.leads.end led.others
  where
    by : (w : Way) → Shape x l w → Answers values ≡ w.how → IsWayEnd x w.ends q
        → ((r : ℕ) → IsWayEnd x w.ends r → Leads x b p next l r (Answers values))
        → ReturnsFrom x b p next l q (Answers values)
    by w (Stays is) e end others = other values Kept (e ∙ is) refl
    by w (Assigns temp a own is) e end others = other values _ (e ∙ is) refl
    by w (Finds temp is) e end others = other values _ (e ∙ is) refl
    by w (TakesGiven signal temps kind is) e end others = other values _ (e ∙ is) refl
    by w (TakesAnswer answer temps kind is) e end others = other values _ (e ∙ is) refl
    by w (Starts exprs own is) e end others = other values _ (e ∙ is) refl
    by w (Transfers count is) e end others = other values _ (e ∙ is) refl
    by w (Asks signal name count answer exprs there own is) e end others = other values _ (e ∙ is) refl
    by w (GivesAnswer answer exprs kind is to) e end others = record {
      answer = answer;
      returns = ap returned kind;
      awaits = subst (λ (o : Ends). IsWayEnd x o q) to end;
      others = λ r at. others r (subst (λ (o : Ends). IsWayEnd x o r) (sym to) at);
    }

-- ---- RETRIEVEs and RETURNs by the table

module _ (x : Exchange) (a : AnswerTable) (are : AreAnswers x a) where
  pub answer_low : (q n : ℕ) → IsExchange x → IsRetrieveAt x q n → n < length x.signals
  answer_low q n kept w =
      ⊎_elim (λ lt. lt) (λ past. absurd (answer_below x w.place.block w.place.layer n past
      (place_fits x w.place kept w.stands.place) w.retrieves)) (cases_lt n (length x.signals))

  pub returns_of : (n r : ℕ) → n < length x.signals → IsReturnAt x r n → ReturnsOf a n r
  returns_of n r lt h =
      let long = are.returns.each_signal in
      let f = some_at a.returns n (omega (arith, lt, long)) in
      record { points = f.0; there = f.1; among = (are.returns.exact n f.0 f.1 r).1 h }

-- whether a point is marked

marked_or : (ms : List ℕ) (p : ℕ) → Contains ms p ⊎ (Contains ms p → ⊥)
marked_or [] p = inr (none_in p)
marked_or (m ∷ ms) p = by (nat_eq m p) refl (marked_or ms p)
  where
    by : (t : Bool) → nat_eq m p ≡ t → Contains ms p ⊎ (Contains ms p → ⊥) → Contains (m ∷ ms) p ⊎ (Contains (m ∷ ms) p → ⊥)
    by true eq more = inl (subst (Contains (m ∷ ms)) (eqb-true m p eq) (first_is m ms))
    by false differ (inl c) = inl (later_is m p ms c)
    by false differ (inr none) = inr (λ c. ⊎_elim (λ e. eqb-false m p differ e) none (first_or_later m p ms c))

-- what the start gives does not depend on what is known

given_values : (P Q : Facts) (e p : ℕ) (t : Bool) (a b v : Value) → SourceGives P e p (if t then Is a else Is b) v
    → SourceGives Q e p (if t then Is a else Is b) v
given_values P Q e p true a b v h = h
given_values P Q e p false a b v h = h

start_values : (P Q : Facts) (e p count : ℕ) (s : Slot) (v : Value) → SourceGives P e p (start_source count s) v → SourceGives Q e p (start_source count s) v
start_values P Q e p count (Temp t) v g = g
start_values P Q e p count (Given k) v g = given_values P Q e p (nat_lt k count) (Arg k) (Const 0) v g
start_values P Q e p count (Answered k) v g = g
start_values P Q e p count Depth v g = g
start_values P Q e p count Awaits v g = g

start_any : (x : Exchange) (P Q : Facts) (f : Fact) → StartGives x P f → StartGives x Q f
start_any x P Q f g = record {
  entry = g.entry;
  there = g.there;
  lands = g.lands;
  slot = g.slot;
  gives = start_values P Q f.entry f.point (value_count x g.entry.signal) f.slot f.value g.gives;
}

-- ---- what an answer gives is least at each of its RETRIEVEs

answer_source : (x : Exchange) (e p q k : ℕ) (v : Value) (r : ℕ) → Reached (IsLeast x) e q → HasSlot x q (Answered k)
    → (m : ℕ) → IsRetrieveAt x p m → IsRetrieveAt x q m → ((i : ℕ) → IsRetrieveAt x p i → i ≡ m)
    → PointGives x (IsLeast x) r (fact e p (Answered k) v) → IsLeast x (fact e q (Answered k) v)
answer_source x e p q k v r reached has m first other same g = by g.how refl g.flow.leads g.flow.gives
  where
    by : (how : Passing) → g.how ≡ how → LeadsTo x g.at p g.how
        → SourceGives (IsLeast x) e g.at.point (source_of g.how (Answered k)) v → IsLeast x (fact e q (Answered k) v)
    by Kept is leads gives = absurd (subst (λ (h : Passing). SourceGives (IsLeast x) e g.at.point (source_of h (Answered k)) v) is gives)
    by (Sets temp s) is leads gives = absurd (subst (λ (h : Passing). SourceGives (IsLeast x) e g.at.point (source_of h (Answered k)) v) is gives)
    by (Takes temps) is leads gives = absurd (subst (λ (h : Passing). SourceGives (IsLeast x) e g.at.point (source_of h (Answered k)) v) is gives)
    by (Retrieves temps) is leads gives = absurd (subst (λ (h : Passing). SourceGives (IsLeast x) e g.at.point (source_of h (Answered k)) v) is gives)
    by (Begins values) is leads gives = absurd (subst (λ (h : Passing). SourceGives (IsLeast x) e g.at.point (source_of h (Answered k)) v) is gives)
    by (Passes count) is leads gives = absurd (subst (λ (h : Passing). SourceGives (IsLeast x) e g.at.point (source_of h (Answered k)) v) is gives)
    by (Calls values answer) is leads gives = absurd (subst (λ (h : Passing). SourceGives (IsLeast x) e g.at.point (source_of h (Answered k)) v) is gives)
    by (Answers values) is leads gives =
        let from = answered x g.at.block g.at.point g.at.next g.at.layer p values (subst (LeadsTo x g.at p) is leads) in
        least_closed x (fact e q (Answered k) v) (inr (
          r,
          record {
            at = g.at;
            stands = g.stands;
            how = Answers values;
            flow = record {
              leads = from.others q (subst (IsRetrieveAt x q) (sym (same from.answer from.awaits)) other);
              reached = g.flow.reached;
              guarded = reached;
              slot = has;
              gives = subst (λ (h : Passing). SourceGives (IsLeast x) e g.at.point (source_of h (Answered k)) v) is gives;
            };
          },
        ))

pub answer_least : (x : Exchange) (a : AnswerTable) → AreAnswers x a → (e p q n k : ℕ) (v : Value) → IsRetrieveAt x p n
    → IsRetrieveAt x q n → Reached (IsLeast x) e q → HasSlot x q (Answered k) → IsLeast x (fact e p (Answered k) v)
    → IsLeast x (fact e q (Answered k) v)
answer_least x a are e p q n k v first other reached has h = by
    (gives_more x (Contains h.before) (IsLeast x)
    (λ g c. derived_in x (IsLeast x) (least_closed x) h.before h.derived.1 g c) (fact e p (Answered k) v) h.derived.0)
  where
    by : Gives x (IsLeast x) (fact e p (Answered k) v) → IsLeast x (fact e q (Answered k) v)
    by (inl g) = absurd g.gives
    by (inr g) = answer_source x e p q k v g.0 reached has n first other (λ i w. one_answer x a are p i n w first) g.1

-- a least fact is of a slot that is there
least_slot : (x : Exchange) (f : Fact) → IsLeast x f → HasSlot x f.point f.slot
least_slot x f h = by h.derived.0
  where
    by : Gives x (Contains h.before) f → HasSlot x f.point f.slot
    by (inl g) = g.slot
    by (inr g) = g.1.flow.slot

-- ---- one step

module _ (x : Exchange) (t : FlowTable) (a : AnswerTable) (e : ℕ) where
  pub goes_same : (s : Search) → IsLeastSoFar x t e s → Goes x t a e s s
  goes_same s stands = record {
    stands = stands;
    more = λ f c. c;
    still = λ p c. c;
    fresh = λ f c. inl c;
    kept = λ n q there. there;
    firsts = λ n q there. inl there;
    reached = λ n q p at r there. inl r;
    counted = omega arith;
  }

  pub goes_then : (s m n : Search) → Goes x t a e s m → Goes x t a e m n → Goes x t a e s n
  goes_then s m n g h = record {
    stands = h.stands;
    more = λ f c. h.more f (g.more f c);
    still = λ p c. h.still p (g.still p c);
    fresh = λ f c. ⊎_elim (λ mid. ⊎_elim inl (λ marked. inr (h.still f.point marked)) (g.fresh f mid)) inr (h.fresh f c);
    kept = λ i q there. h.kept i q (g.kept i q there);
    firsts = λ i q there.
        ⊎_elim
        (λ mid. ⊎_elim inl (λ (new : IsNew x m.marks i q). inr
        (record { own = h.still q new.own; returns = λ r of. h.still r (new.returns r of) })) (g.firsts i q mid))
        inr
        (h.firsts i q there);
    reached = λ i q p at r there.
        ⊎_elim
        (λ mid. ⊎_elim
        (λ was. ⊎_elim inl (λ marked. inr (h.still p marked)) (g.reached i q p at mid was))
        (λ (new : IsNew x n.marks i p). inr new.own)
        (h.firsts i p there))
        inr
        (h.reached i q p at r there);
    counted = fewer_then (length s.marks + missing s.rows * most_marks a)
        (length m.marks + missing m.rows * most_marks a) (length n.marks + missing n.rows * most_marks a) g.counted
        h.counted;
  }
    where
      fewer_then : (b c d : ℕ) → c ≤ b → d ≤ c → d ≤ b
      fewer_then b c d first last = omega (arith, first, last)

  room : (new old fewer many most : ℕ) → new ≤ old + most → fewer < many → new + fewer * most ≤ old + many * most
  room new old fewer many most few less =
      let up : suc fewer ≤ many = omega (arith, less) in
      sum (fewer * most) (many * most) (suc fewer * most) (suc-mul fewer most) (mul-le-mul_right most up)
    where
      sum : (b c d : ℕ) → d ≡ b + most → d ≤ c → new + b ≤ old + c
      sum b c d is le = omega (arith, few, is, le)

  module _ (kept : IsExchange x) (are : AreAnswers x a) (s : Search) (k : BitRows) (q : ℕ)
      (stands : IsLeastSoFar x t e s) (m : List ℕ) (firsts : List (Option ℕ)) where
    abbrev made : Search
    made = record { rows = k; marks = m; firsts = firsts }

    grown_goes : (noted : Bool) → Fills x q s.rows true k → (IsTrue noted → IsNoted a s.rows e q)
        → Settles a k e true noted q s.marks s.firsts m firsts → Goes x t a e s made
    grown_goes noted fills test settles = record {
      stands = record {
        of_entry = fills.entry ∙ stands.of_entry;
        of_slots = fills.slots ∙ stands.of_slots;
        least = λ f c. ⊎_elim (stands.least f) (λ w. w.1) (fills.each f c);
        long = settles.long ∙ stands.long;
        retrieve = λ n p is. ⊎_elim (stands.retrieve n p)
            (λ o. subst (λ z. IsRetrieveAt x z n) (sym o.2.this) (retrieve_there n o.0 o.1)) (settles.firsts n p is);
        reached = λ n p is. ⊎_elim (λ was. still_reached p (stands.reached n p was))
            (λ o. subst (Reached (Knows k) e) (sym o.2.this) o.0) (settles.firsts n p is);
        found = found;
      };
      more = fills.more;
      still = settles.still;
      fresh = λ f c. ⊎_elim inl (λ w. inr (subst (Contains m) (sym w.0) own)) (fills.each f c);
      kept = settles.kept;
      firsts = λ n p is. ⊎_elim inl (λ o. inr (record {
        own = subst (Contains m) (sym o.2.this) own;
        returns = λ r of. o.2.returns r (returns_of x a are n r (answer_low x a are q n kept (retrieve_there n o.0 o.1)) of);
      })) (settles.firsts n p is);
      reached = λ n p first w r is. ⊎_elim (λ was. inl (r.0, was)) (λ o. newly n p first w r is o.0) (fills.each (fact e p Depth r.0) r.1);
      counted = room (length m) (length s.marks) (missing k) (missing s.rows) (most_marks a) settles.few fills.counted;
    }
      where
        own : Contains m q
        own = settles.own refl

        retrieve_there : (n : ℕ) → Reached (Knows k) e q → awaited_at a q ≡ Some n → IsRetrieveAt x q n
        retrieve_there n r is =
            let least : IsLeast x (fact e q Depth r.0) = ⊎_elim (stands.least (fact e q Depth r.0)) (λ w. w.1) (fills.each (fact e q Depth r.0) r.1) in
            let slot = least_slot x (fact e q Depth r.0) least in
            retrieve_of x a are q n slot.place slot.stands is

        still_reached : (p : ℕ) → Reached (Knows s.rows) e p → Reached (Knows k) e p
        still_reached p r = (r.0, fills.more (fact e p Depth r.0) r.1)

        -- a RETRIEVE that needed no note was reached
        was_reached : (n : ℕ) → IsRetrieveAt x q n → IsTrue noted → Reached (Knows s.rows) e q
        was_reached n w on = ⊎_elim (λ none. absurd (none-some n (sym none ∙ awaited_of x a are q n w))) (λ was. was) (test on)

        -- a RETRIEVE that is reached only now
        first_now : (n : ℕ) → IsRetrieveAt x q n → Reached (Knows k) e q → noted ≡ false → HasFirst q m firsts n
        first_now n w r before = settles.found refl before r n (awaited_of x a are q n w)
            (let low = answer_low x a are q n kept w in let long = stands.long in omega (arith, low, long))

        at_q : (n : ℕ) → IsRetrieveAt x q n → Reached (Knows k) e q → (b : Bool) → noted ≡ b → (first : ℕ) × (slice_get firsts n ≡ Some (Some first))
        at_q n w r true is = (let f = stands.found n q w (was_reached n w is) in (f.0, settles.kept n f.0 f.1))
        at_q n w r false is = (let f = first_now n w r is in (f.first, f.is))

        found : (n p : ℕ) → IsRetrieveAt x p n → Reached (Knows k) e p → (first : ℕ) × (slice_get firsts n ≡ Some (Some first))
        found n p w r =
            ⊎_elim
            (λ was. (let f = stands.found n p w (r.0, was) in (f.0, settles.kept n f.0 f.1)))
            (λ o. at_q n (subst (λ z. IsRetrieveAt x z n) o.0 w) (subst (Reached (Knows k) e) o.0 r) noted refl)
            (fills.each (fact e p Depth r.0) r.1)

        newly_by : (n first : ℕ) → IsRetrieveAt x q n → Reached (Knows k) e q → slice_get firsts n ≡ Some (Some first)
            → (b : Bool) → noted ≡ b → Reached (Knows s.rows) e q ⊎ Contains m first
        newly_by n first w r is true before = inl (was_reached n w before)
        newly_by n first w r is false before =
            let f = first_now n w r before in
            let same : f.first ≡ first = same_Some f.first first (same_Some (Some f.first) (Some first) (sym f.is ∙ is)) in
            inr (subst (Contains m) same (⊎_elim (λ e. subst (Contains m) (sym e) own) (λ c. c) f.handing))

        newly : (n p first : ℕ) → IsRetrieveAt x p n → Reached (Knows k) e p → slice_get firsts n ≡ Some (Some first)
            → p ≡ q → Reached (Knows s.rows) e p ⊎ Contains m first
        newly n p first w r is same =
            ⊎_elim (λ was. inl (subst (Reached (Knows s.rows) e) (sym same) was)) inr
            (newly_by n first (subst (λ z. IsRetrieveAt x z n) same w) (subst (Reached (Knows k) e) same r) is noted refl)

    -- a point got some facts, and was settled
    pub settled_goes : (grown noted : Bool) → Fills x q s.rows grown k → (IsTrue noted → IsNoted a s.rows e q)
        → Settles a k e grown noted q s.marks s.firsts m firsts → Goes x t a e s made
    settled_goes true noted fills test settles = grown_goes noted fills test settles
    settled_goes false noted fills test settles =
        let same = settles.same refl in
        let rows : s.rows ≡ k = sym fills.counted in
        let marks : s.marks ≡ m = sym same.0 in
        let points : s.firsts ≡ firsts = sym same.1 in
        subst (Goes x t a e s) (λ i. record { rows = rows i; marks = marks i; firsts = points i }) (goes_same s stands)

-- ---- several steps

-- what the items in front of a place give is known
pub record WentAll {A : Type 0} (x : Exchange) (t : FlowTable) (a : AnswerTable) (e : ℕ) (G : A → Fact → Type 0)
    (xs : List A) (i : ℕ) (s new : Search) : Type 0 where
  pub goes : Goes x t a e s new
  pub all : (b : A) → Contains (take i xs) b → (f : Fact) → G b f → Knows new.rows f

pub went_begin : {A : Type 0} (x : Exchange) (t : FlowTable) (a : AnswerTable) (e : ℕ) (G : A → Fact → Type 0)
    (xs : List A) (s : Search) → IsLeastSoFar x t e s → WentAll x t a e G xs 0 s s
went_begin x t a e G xs s stands = record { goes = goes_same x t a e s stands; all = λ b c f g. absurd (none_yet xs b c) }

pub went_more : {A : Type 0} (x : Exchange) (t : FlowTable) (a : AnswerTable) (e : ℕ) (G : A → Fact → Type 0)
    (H : Fact → Type 0) (xs : List A) (i : ℕ) (d : A) (s m n : Search) → i < length xs
    → ((f : Fact) → G (get_or xs i d) f → H f)
    → Went x t a e H m n → WentAll x t a e G xs i s m → WentAll x t a e G xs (i + 1) s n
went_more x t a e G H xs i d s m n lt over h g = record {
  goes = goes_then x t a e s m n g.goes h.goes;
  all = λ b c f own. ⊎_elim (λ before. h.goes.more f (g.all b before f own))
      (λ here. h.all f (over f (subst (λ z. G z f) here own))) (before_or_here xs i d b lt c);
}

-- an item that is read by reference
pub went_item : {A : Type 0} (x : Exchange) (t : FlowTable) (a : AnswerTable) (e : ℕ) (G : A → Fact → Type 0)
    (H : Fact → Type 0) (xs : List A) (i : ℕ) (b : A) (s m n : Search) → i < length xs → b ≡ get_or xs i b
    → ((f : Fact) → G b f → H f)
    → Went x t a e H m n → WentAll x t a e G xs i s m → WentAll x t a e G xs (i + 1) s n
went_item x t a e G H xs i b s m n lt is over h g = went_more x t a e G H xs i b s m n lt (λ f own. over f (subst (λ z. G z f) (sym is) own)) h g

pub went_end : {A : Type 0} (x : Exchange) (t : FlowTable) (a : AnswerTable) (e : ℕ) (G : A → Fact → Type 0)
    (xs : List A) (i : ℕ) (s new : Search) → length xs ≤ i → WentAll x t a e G xs i s new
    → Went x t a e (OneGives G xs) s new
went_end x t a e G xs i s new past g = record {
  goes = g.goes;
  all = λ f o. g.all o.one (subst (λ l. Contains l o.one) (sym (take_all i xs past)) o.among) f o.gives;
}

pub facts_all : (x : Exchange) (t : FlowTable) (a : AnswerTable) (e : ℕ) (facts : List Fact) (i : ℕ) (s new : Search)
    → length facts ≤ i → WentAll x t a e IsFact facts i s new → Went x t a e (Contains facts) s new
facts_all x t a e facts i s new past g = record { goes = g.goes; all = λ f c. g.all f (subst (λ l. Contains l f) (sym (take_all i facts past)) c) f refl }

-- the same facts, said otherwise
pub went_as : (x : Exchange) (t : FlowTable) (a : AnswerTable) (e : ℕ) (G H : Fact → Type 0) (s new : Search)
    → ((f : Fact) → H f → G f) → Went x t a e G s new → Went x t a e H s new
went_as x t a e G H s new over g = record { goes = g.goes; all = λ f h. g.all f (over f h) }

pub went_none : (x : Exchange) (t : FlowTable) (a : AnswerTable) (e : ℕ) (G : Fact → Type 0) (s : Search)
    → IsLeastSoFar x t e s → ((f : Fact) → G f → ⊥) → Went x t a e G s s
went_none x t a e G s stands none = record { goes = goes_same x t a e s stands; all = λ f g. absurd (none f g) }

-- ---- what goes on from a point that is not marked

module _ (x : Exchange) (t : FlowTable) (a : AnswerTable) (e : ℕ) (are : AreAnswers x a) (s new : Search)
    (old : IsLeastSoFar x t e s) (g : Goes x t a e s new) (p : ℕ) (unmarked : Contains new.marks p → ⊥) where
  -- all that is known there was known before
  was_known : (u : Slot) (v : Value) → Knows new.rows (fact e p u v) → Knows s.rows (fact e p u v)
  was_known u v c = ⊎_elim (λ was. was) (λ marked. absurd (unmarked marked)) (g.fresh (fact e p u v) c)

  was_handed : (f : Fact) → HandedFrom x new.firsts (Knows new.rows) e p f → HandedFrom x s.firsts (Knows s.rows) e p f
  was_handed f h = record {
    answer = h.answer;
    first = ⊎_elim (λ was. was) (λ (w : IsNew x new.marks h.answer p). absurd (unmarked w.own)) (g.firsts h.answer p h.first);
    retrieve = h.retrieve;
    entry = h.entry;
    reached = ⊎_elim (λ was. was) (λ marked. absurd (unmarked marked)) (g.reached h.answer f.point p h.retrieve h.reached h.first);
    k = h.k;
    slot = h.slot;
    has = h.has;
    known = was_known f.slot f.value h.known;
  }

  -- the first RETRIEVE to which an answer goes was the first before, and was reached
  was_first : (at : Place) → StandsAt x p at → (q : ℕ) (values : List Source) → LeadsTo x at q (Answers values) → IsFirst new.firsts q → IsFirst s.firsts q
  was_first at stands q values leads f =
      ⊎_elim
      (λ was. record { answer = f.answer; is = was })
      (λ (w : IsNew x new.marks f.answer q).
      let from = answered x at.block at.point at.next at.layer q values leads in
      let same : from.answer ≡ f.answer = one_answer x a are q from.answer f.answer from.awaits (g.stands.retrieve f.answer q f.is) in
      absurd (unmarked (w.returns p (record { place = at; stands = stands; has = from.returns ∙ ap Some same }))))
      (g.firsts f.answer q f.is)

  was_sent : (f : Fact) → SentFrom x new.firsts (Knows new.rows) e p f → SentFrom x s.firsts (Knows s.rows) e p f
  was_sent f h = by h.given.gives.how refl
    where
      w : PointGives x (Knows new.rows) p f
      w = h.given.gives

      known_there : (u : Slot) (v : Value) → Knows new.rows (fact f.entry w.at.point u v) → Knows s.rows (fact f.entry w.at.point u v)
      known_there u v c = subst (λ n. Knows s.rows (fact n w.at.point u v)) (sym h.given.entry)
          (subst (λ n. Knows s.rows (fact e n u v)) (sym w.stands.here)
          (was_known u v (subst (λ n. Knows new.rows (fact e n u v)) w.stands.here
          (subst (λ n. Knows new.rows (fact n w.at.point u v)) h.given.entry c))))

      sent : (is_answer w.how ≡ true → Reached (Knows new.rows) f.entry f.point
          → Reached (Knows s.rows) f.entry f.point) → (is_answer w.how ≡ true → IsFirst s.firsts f.point)
          → SentFrom x s.firsts (Knows s.rows) e p f
      sent reached first = record {
        given = record {
          entry = h.given.entry;
          gives = record {
            at = w.at;
            stands = w.stands;
            how = w.how;
            flow = record {
              leads = w.flow.leads;
              reached = (w.flow.reached.0, known_there Depth w.flow.reached.0 w.flow.reached.1);
              guarded = guard_by (Knows new.rows) (Knows s.rows) f.entry w.at.point f.point (λ c. known_there Depth (Const c)) w.how reached w.flow.guarded;
              slot = w.flow.slot;
              gives = source_alike (Knows new.rows) (Knows s.rows) f.entry w.at.point known_there (source_of w.how f.slot) f.value w.flow.gives;
            };
          };
        };
        first = first;
      }

      answer_first : (values : List Source) → w.how ≡ Answers values → IsFirst s.firsts f.point
      answer_first values is = was_first w.at w.stands f.point values (subst (LeadsTo x w.at f.point) is w.flow.leads) (h.first (ap is_answer is))

      no_answer : {B : Type 0} (how : Passing) → w.how ≡ how → is_answer how ≡ false → is_answer w.how ≡ true → B
      no_answer how is none some = absurd (true≢false (sym some ∙ ap is_answer is ∙ none))

      by : (how : Passing) → w.how ≡ how → SentFrom x s.firsts (Knows s.rows) e p f
      by (Answers values) is =
          let first = answer_first values is in
          sent (λ o r. subst (λ n. Reached (Knows s.rows) n f.point) (sym h.given.entry) (old.reached first.answer f.point first.is)) (λ o. first)
      by Kept is = sent (no_answer Kept is refl) (no_answer Kept is refl)
      by (Sets temp u) is = sent (no_answer (Sets temp u) is refl) (no_answer (Sets temp u) is refl)
      by (Takes temps) is = sent (no_answer (Takes temps) is refl) (no_answer (Takes temps) is refl)
      by (Retrieves temps) is = sent (no_answer (Retrieves temps) is refl) (no_answer (Retrieves temps) is refl)
      by (Begins values) is = sent (no_answer (Begins values) is refl) (no_answer (Begins values) is refl)
      by (Passes count) is = sent (no_answer (Passes count) is refl) (no_answer (Passes count) is refl)
      by (Calls values answer) is = sent (no_answer (Calls values answer) is refl) (no_answer (Calls values answer) is refl)

  pub was_going : (f : Fact) → GoesOn x new.firsts (Knows new.rows) e p f → GoesOn x s.firsts (Knows s.rows) e p f
  was_going f (inl h) = inl (was_sent f h)
  was_going f (inr h) = inr (was_handed f h)

-- ---- a point is looked at

module _ (x : Exchange) (t : FlowTable) (a : AnswerTable) (e : ℕ) where
  pub restand : (s : Search) (marks : List ℕ) → IsLeastSoFar x t e s → IsLeastSoFar x t e (without s marks)
  restand s marks h = record {
    of_entry = h.of_entry;
    of_slots = h.of_slots;
    least = h.least;
    long = h.long;
    retrieve = h.retrieve;
    reached = h.reached;
    found = h.found;
  }

  start_was : (k new : BitRows) (f : Fact) → GivenAtStart x (Knows new) e f → GivenAtStart x (Knows k) e f
  start_was k new f g = record { entry = g.entry; gives = start_any x (Knows new) (Knows k) f g.gives }

  pub visited : (are : AreAnswers x a) (s mid new : Search) (p : ℕ) (G : Fact → Type 0)
      → Searches x t e (without s (p ∷ s.marks)) → ((f : Fact) → SentFrom x s.firsts (Knows s.rows) e p f → G f)
      → Went x t a e G s mid → Went x t a e (HandedFrom x mid.firsts (Knows mid.rows) e p) mid new → IsVisited x t a e s new
  visited are s mid new p G searches sends sent handed = record {
    searches = record {
      stands = handed.goes.stands;
      start = λ f g. whole.more f (searches.start f (start_was s.rows new.rows f g));
      points = λ q. ⊎_elim inl (λ unmarked. inr (settled q unmarked)) (marked_or new.marks q);
    };
    counted = whole.counted;
  }
    where
      stands : IsLeastSoFar x t e s
      stands = restand (without s (p ∷ s.marks)) s.marks searches.stands

      whole : Goes x t a e s new
      whole = goes_then x t a e s mid new sent.goes handed.goes

      own : (Contains new.marks p → ⊥) → (f : Fact) → GoesOn x new.firsts (Knows new.rows) e p f → Knows new.rows f
      own unmarked f (inl h) = handed.goes.more f (sent.all f (sends f (was_sent x t a e are s new stands whole p unmarked f h)))
      own unmarked f (inr h) = handed.all f (was_handed x t a e are mid new sent.goes.stands handed.goes p unmarked f h)

      settled : (q : ℕ) → (Contains new.marks q → ⊥) → (f : Fact) → GoesOn x new.firsts (Knows new.rows) e q f → Knows new.rows f
      settled q unmarked f h =
          ⊎_elim
          (λ c. ⊎_elim
          (λ same. own (subst (λ n. Contains new.marks n → ⊥) (sym same) unmarked) f (subst (λ n. GoesOn x new.firsts (Knows new.rows) e n f) (sym same) h))
          (λ later. absurd (unmarked (whole.still q later)))
          (first_or_later p q s.marks c))
          (λ was. whole.more f (was f (was_going x t a e are s new stands whole q unmarked f h)))
          (searches.points q)

  pub visited_none : (s : Search) (p : ℕ) → Searches x t e (without s (p ∷ s.marks))
      → ((f : Fact) → GoesOn x s.firsts (Knows s.rows) e p f → ⊥) → IsVisited x t a e s s
  visited_none s p searches none = record {
    searches = record {
      stands = restand (without s (p ∷ s.marks)) s.marks searches.stands;
      start = searches.start;
      points = λ q. ⊎_elim (λ c. ⊎_elim (λ same. inr
          (λ f h. absurd (none f (subst (λ n. GoesOn x s.firsts (Knows s.rows) e n f) (sym same) h)))) inl
          (first_or_later p q s.marks c)) inr (searches.points q);
    };
    counted = omega arith;
  }

  reached_by : (s : Search) (p : ℕ) → IsLeastSoFar x t e s → (f : Fact) → GoesOn x s.firsts (Knows s.rows) e p f → Reached (Knows s.rows) e p
  reached_by s p stands f (inl h) = subst (λ n. Reached (Knows s.rows) n p) h.given.entry
      (subst (Reached (Knows s.rows) f.entry) h.given.gives.stands.here h.given.gives.flow.reached)
  reached_by s p stands f (inr h) = stands.reached h.answer p h.first

  pub unreached_visit : (s : Search) (p : ℕ) (b : Bool) → Searches x t e (without s (p ∷ s.marks))
      → (IsTrue b ↔ Reached (Knows s.rows) e p) → b ≡ false → IsVisited x t a e s s
  unreached_visit s p b searches test off = visited_none s p searches
      (λ f h. true≢false (sym (test.1 (reached_by s p (restand (without s (p ∷ s.marks)) s.marks searches.stands) f h))
      ∙ off))

  stands_by : (s : Search) (p : ℕ) → IsLeastSoFar x t e s → (f : Fact) → GoesOn x s.firsts (Knows s.rows) e p f → (at : Place) × StandsAt x p at
  stands_by s p stands f (inl h) = (h.given.gives.at, h.given.gives.stands)
  stands_by s p stands f (inr h) = (let w = stands.retrieve h.answer p h.first in (w.place, w.stands))

  pub rowless_visit : (s : Search) (p : ℕ) → IsFlowTable x t → Searches x t e (without s (p ∷ s.marks)) → length t.rows ≤ p → IsVisited x t a e s s
  rowless_visit s p table searches past = visited_none s p searches (λ f h.
      let at = stands_by s p (restand (without s (p ∷ s.marks)) s.marks searches.stands) f h in
      let row = table.rows.each p at.0 at.1 in
      none-some row.row (sym (slice_get_past t.rows p past) ∙ row.there))

  pub visit_less : (s new : Search) (p : ℕ) (all : List ℕ) → all ≡ p ∷ s.marks → IsVisited x t a e s new
      → length new.marks + missing new.rows * most_marks a < length all + missing s.rows * most_marks a
  visit_less s new p all is h = less (length new.marks) (length s.marks) (length all) (missing new.rows * most_marks a)
      (missing s.rows * most_marks a) h.counted (ap length is)
    where
      less : (b c d v w : ℕ) → b + v ≤ c + w → d ≡ suc c → b + v < d + w
      less b c d v w le is = omega (arith, le, is)

  -- ---- the beginning

  abbrev no_first : Option ℕ
  no_first = None

  none_first : (n i q : ℕ) → slice_get (replicate n no_first) i ≡ Some (Some q) → ⊥
  none_first zero i q there = none-some (Some q) there
  none_first (suc n) zero q there = none-some q (same_Some None (Some q) there)
  none_first (suc n) (suc i) q there = none_first n i q there

  module _ (k : BitRows) (slots : List Counts) (knows : KnowNothing e slots k) where
    pub begun_stands : (m : List ℕ) (firsts : List (Option ℕ)) (n : ℕ) → slots ≡ slots_of t → firsts ≡ replicate n None
        → n ≡ length x.signals → IsLeastSoFar x t e (record { rows = k; marks = m; firsts = firsts })
    begun_stands m firsts n own none many = record {
      of_entry = knows.of_entry;
      of_slots = knows.of_slots ∙ own;
      least = λ f c. absurd (knows.nothing f c);
      long = ap length none ∙ length-replicate n no_first ∙ many;
      retrieve = λ i q there. absurd (none_first n i q (sym (ap (λ l. slice_get l i) none) ∙ there));
      reached = λ i q there. absurd (none_first n i q (sym (ap (λ l. slice_get l i) none) ∙ there));
      found = λ i q w r. absurd (knows.nothing (fact e q Depth r.0) r.1);
    }

    module _ (empty facts listed : List Fact) (none : empty ≡ []) (given : HasGiven empty facts (GivenAtStart x (Knows k) e)) (same : listed ≡ facts) where
      all_added : listed ≡ given.added
      all_added = same ∙ given.is ∙ ap (λ l. l ++ given.added) none

      pub begun_least : (f : Fact) → Contains listed f → IsOwnLeast x e f
      begun_least f c = (let g = given.each f (subst (λ l. Contains l f) all_added c) in record
          { entry = g.entry; least = least_closed x f (inl (start_any x (Knows k) (IsLeast x) f g.gives)) })

      pub begun_searches : (are : AreAnswers x a) (m : List ℕ) (firsts : List (Option ℕ)) (new : Search)
          → IsLeastSoFar x t e (record { rows = k; marks = m; firsts = firsts }) → m ≡ []
          → Went x t a e (Contains listed) (record { rows = k; marks = m; firsts = firsts }) new → Searches x t e new
      begun_searches are m firsts new stands unmarked went = record {
        stands = went.goes.stands;
        start = λ f g. went.all f (subst (λ l. Contains l f) (sym all_added) (given.listed f (start_was k new.rows f g)));
        points = λ q. ⊎_elim inl (λ none_marked. inr
            (λ f h. absurd (nothing f q (was_going x t a e are (record { rows = k; marks = m; firsts = firsts }) new
            stands went.goes q none_marked f h)))) (marked_or new.marks q);
      }
        where
          nothing : (f : Fact) (q : ℕ) → GoesOn x firsts (Knows k) e q f → ⊥
          nothing f q (inl h) = knows.nothing _ h.given.gives.flow.reached.1
          nothing f q (inr h) = knows.nothing _ h.known

  -- ---- the end

  module _ (are : AreAnswers x a) (s : Search) (searches : Searches x t e s) (unmarked : s.marks ≡ []) where
    abbrev k : BitRows
    k = s.rows

    goes_on : (p : ℕ) (f : Fact) → GoesOn x s.firsts (Knows k) e p f → Knows k f
    goes_on p f h = ⊎_elim (λ c. absurd (none_in p (subst (λ l. Contains l p) unmarked c))) (λ all. all f h) (searches.points p)

    slot_moves : (q r n j : ℕ) → IsRetrieveAt x q n → IsRetrieveAt x r n → HasSlot x q (Answered j) → HasSlot x r (Answered j)
    slot_moves q r n j w u has =
        let same : retrieved has.place.layer ≡ Some n = same_Some (retrieved has.place.layer) (Some n)
        (sym (are.awaits q has.place has.stands) ∙ are.awaits q w.place w.stands ∙ ap Some w.retrieves) in
        record { place = u.place; stands = u.stands; slot = subst (λ o. j < answer_count x o) (same ∙ sym u.retrieves) has.slot }

    handed : (p q n first j : ℕ) (v : Value) (at : Place) → StandsAt x p at → (values : List Source)
        → ((r : ℕ) → IsRetrieveAt x r n → LeadsTo x at r (Answers values)) → IsRetrieveAt x q n
        → slice_get s.firsts n ≡ Some (Some first)
        → Reached (Knows k) e at.point → Reached (Knows k) e q → HasSlot x q (Answered j)
        → SourceGives (Knows k) e at.point (source_of (Answers values) (Answered j)) v
        → Knows k (fact e q (Answered j) v)
    handed p q n first j v at stands values leads w is here reached has gives =
        let u = searches.stands.retrieve n first is in
        goes_on first (fact e q (Answered j) v) (inr (record {
          answer = n;
          first = is;
          retrieve = w;
          entry = refl;
          reached = reached;
          k = j;
          slot = refl;
          has = has;
          known = goes_on p (fact e first (Answered j) v) (inl (record {
            given = record {
              entry = refl;
              gives = record {
                at = at;
                stands = stands;
                how = Answers values;
                flow = record {
                  leads = leads first u;
                  reached = here;
                  guarded = searches.stands.reached n first is;
                  slot = slot_moves q first n j w u has;
                  gives = gives;
                };
              };
            };
            first = λ o. record { answer = n; is = is };
          }));
        }))

    answer_known : (p q : ℕ) (u : Slot) (v : Value) (at : Place) → StandsAt x p at → (values : List Source)
        → LeadsTo x at q (Answers values) → Reached (Knows k) e at.point → Reached (Knows k) e q → HasSlot x q u
        → SourceGives (Knows k) e at.point (source_of (Answers values) u) v → Knows k (fact e q u v)
    answer_known p q (Answered j) v at stands values leads here reached has gives =
        let from = answered x at.block at.point at.next at.layer q values leads in
        let first = searches.stands.found from.answer q from.awaits reached in
        handed p q from.answer first.0 j v at stands values from.others from.awaits first.1 here reached has gives
    answer_known p q (Temp t) v at stands values leads here reached has gives = absurd gives
    answer_known p q (Given i) v at stands values leads here reached has gives = absurd gives
    answer_known p q Depth v at stands values leads here reached has gives = absurd gives
    answer_known p q Awaits v at stands values leads here reached has gives = absurd gives

    plain : (p : ℕ) (f : Fact) → f.entry ≡ e → (g : PointGives x (Knows k) p f) → is_answer g.how ≡ false → Knows k f
    plain p f is g none = goes_on p f (inl (record { given = record { entry = is; gives = g }; first = λ some. absurd (true≢false (sym some ∙ none)) }))

    flow_known : (p : ℕ) (f : Fact) → f.entry ≡ e → (g : PointGives x (Knows k) p f) → (how : Passing) → g.how ≡ how → Knows k f
    flow_known p f is g (Answers values) own =
        let flow = g.flow in
        let path : f ≡ fact e f.point f.slot f.value = (λ i. record { entry = is i; point = f.point; slot = f.slot; value = f.value }) in
        subst (Knows k) (sym path)
        (answer_known p f.point f.slot f.value g.at g.stands values (subst (LeadsTo x g.at f.point) own flow.leads)
        (subst (λ n. Reached (Knows k) n g.at.point) is flow.reached)
        (subst (λ (h : Passing). Guarded (Knows k) e g.at.point f.point h) own (subst (λ n. Guarded (Knows k) n g.at.point f.point g.how) is flow.guarded))
        flow.slot
        (subst (λ (h : Passing). SourceGives (Knows k) e g.at.point (source_of h f.slot) f.value) own
        (subst (λ n. SourceGives (Knows k) n g.at.point (source_of g.how f.slot) f.value) is flow.gives)))
    flow_known p f is g Kept own = plain p f is g (ap is_answer own)
    flow_known p f is g (Sets temp u) own = plain p f is g (ap is_answer own)
    flow_known p f is g (Takes temps) own = plain p f is g (ap is_answer own)
    flow_known p f is g (Retrieves temps) own = plain p f is g (ap is_answer own)
    flow_known p f is g (Begins values) own = plain p f is g (ap is_answer own)
    flow_known p f is g (Passes count) own = plain p f is g (ap is_answer own)
    flow_known p f is g (Calls values answer) own = plain p f is g (ap is_answer own)

    own_closed : IsClosed x (λ f. f.entry ≡ e → Knows k f)
    own_closed f (inl g) is = searches.start f (record { entry = is; gives = start_any x (λ h. h.entry ≡ e → Knows k h) (Knows k) f g })
    own_closed f (inr (p, g)) is =
        let own : PointGives x (Knows k) p f = point_alike x (λ h. h.entry ≡ e → Knows k h) (Knows k) p f (λ u v h. h is) (λ q to r. (r.0, r.1 is)) g in
        flow_known p f is own own.how refl

    known_entry : (f : Fact) → Knows k f → f.entry ≡ k.entry
    known_entry f h = h.entry

    pub found_all : AreFound x t e k
    found_all = record {
      of_slots = searches.stands.of_slots;
      exact = λ f. (
        λ h. (known_entry f h ∙ searches.stands.of_entry, searches.stands.least f h),
        λ h. least_in x
            (λ b. b.entry ≡ e → Knows k b) own_closed f h.1 h.0,
      );
    }

-- where there is no bound, all that is wanted is found

pub found_always : {P : Type 0} (F : Fact → Type 0) (o : Looked) → FindsWithin F None P o → P
found_always F (Whole looks) found = found
found_always F (Over looks) over = absurd over.0

pub learned_or_over : (x : Exchange) (t : FlowTable) (e : ℕ) (a : Analyser) (most : Option ℕ) (o : Looked)
    → FindsWithin (IsOwnLeast x e) most (AreFound x t e a.rows) o
    → FindsWithin (IsOwnLeast x e) most (HasLearned x e a) o
learned_or_over x t e a most (Whole looks) found = record { rows = record { exact = found.exact } }
learned_or_over x t e a most (Over looks) over = over

-- what is found is listed

pub found_exact : (x : Exchange) (e : ℕ) (k : BitRows) (facts : List Fact) → KnowLeast x e k → AreFacts (Knows k) facts
    → (f : Fact) → Contains facts f ↔ ((f.entry ≡ e) × IsLeast x f)
found_exact x e k facts found are f = (λ c. (found.exact f).0 (are.each f c), λ h. are.listed f ((found.exact f).1 h))

pub found_rising : (k : BitRows) (facts : List Fact) → AreFacts (Knows k) facts → IsStrictlySortedBy fact_order facts
found_rising k facts are = are.rising
