-- What is known while the least facts of an entry are found.
--
-- A RETURN sends its values to one RETRIEVE of its answer: the first that was reached. That one
-- hands out what it has to the others that are reached, and so it is looked at again where another
-- one is reached. So R RETURNs and Q RETRIEVEs of an answer take R + Q steps.
use Rattle.std.specs.Prelude.{◌≡◌, ◌⊎◌, ◌↔◌, ℕ, ◌+◌, ◌*◌, ◌≤◌, true, List, length, Option, Some}
use Rattle.std.specs.Prelude.{None, map, slice_get}
use Rattle.std.specs.List.{Contains, range_with_len}
use Rattle.exchange_model.specs.declared.exchange.Exchange.{Exchange}
use Rattle.flow_points.specs.declared.fact.Fact.{Fact}
use Rattle.flow_points.specs.declared.fact.Slot.TheVariants.{Answered}
use Rattle.flow_points.specs.declared.flow.Source.{Source}
use Rattle.flow_points.specs.declared.flow.Source.TheVariants.{Of}
use Rattle.flow_points.specs.Facts.{Facts, IsLeast, Reached, fact}
use Rattle.flow_points.specs.Places.{IsRetrieveAt}
use Rattle.flow_points.specs.Slots.{HasSlot}
use Rattle.flow_table.specs.declared.row.FlowTable.{FlowTable}
use Rattle.flow_table.specs.declared.way.Way.{Way}
use Rattle.flow_table.specs.declared.way.Ends.TheVariants as ends
use Rattle.flow_table.specs.Ways.{IsWayEnd}
use Rattle.fact_flows.specs.Flows.{FlowsTo}
use Rattle.fact_flows.specs.Given.{GivenAt, GivenAtStart}
use Rattle.fact_rows.specs.Known.{BitRows, Knows, missing, slots_of}
use Rattle.answer_table.specs.declared.answers.AnswerTable.{AnswerTable}
use Rattle.least_facts.specs.declared.marks.Marked.{Marked}
use Rattle.answer_table.specs.Answers.{IsReturnAt, awaited_at, is_answer}
use Rattle.least_facts.specs.Marks.{marks_of, most_marks}

-- how far a search is: what is known, the points that are marked, and for each answer the RETRIEVE
-- that was reached first
pub record Search : Type 0 where
  pub rows : BitRows
  pub marks : List ℕ
  pub firsts : List (Option ℕ)

abbrev pub search_of : BitRows → Marked → Search
search_of k m = record { rows = k; marks = marks_of m; firsts = m.firsts.items }

-- the point is the first of an answer
pub record IsFirst (firsts : List (Option ℕ)) (q : ℕ) : Type 0 where
  pub answer : ℕ
  pub is : slice_get firsts answer ≡ Some (Some q)

-- a flow from the point gives the fact, in a job of the entry, and an answer goes to the first
-- RETRIEVE alone
pub record SentFrom (x : Exchange) (firsts : List (Option ℕ)) (P : Facts) (e p : ℕ)
    (f : Fact) : Type 0 where
  pub given : GivenAt x P e p f
  pub first : is_answer given.gives.how ≡ true → IsFirst firsts f.point

-- the first RETRIEVE of an answer has the fact, but for its point, and hands it out to another one
-- that is reached
pub record HandedFrom (x : Exchange) (firsts : List (Option ℕ)) (P : Facts) (e p : ℕ)
    (f : Fact) : Type 0 where
  pub answer : ℕ
  pub first : slice_get firsts answer ≡ Some (Some p)
  pub retrieve : IsRetrieveAt x f.point answer
  pub entry : f.entry ≡ e
  pub reached : Reached P e f.point
  pub k : ℕ
  pub slot : f.slot ≡ Answered k
  pub has : HasSlot x f.point f.slot
  pub known : P (fact e p f.slot f.value)

abbrev pub GoesOn : Exchange → List (Option ℕ) → Facts → ℕ → ℕ → Fact → Type 0
GoesOn x firsts P e p f = SentFrom x firsts P e p f ⊎ HandedFrom x firsts P e p f

-- what a way from the point gives, where an answer goes to the first RETRIEVE alone
pub record WaySends (x : Exchange) (firsts : List (Option ℕ)) (P : Facts) (e p : ℕ) (w : Way)
    (f : Fact) : Type 0 where
  pub end : ℕ
  pub ends : IsWayEnd x w.ends end
  pub first : is_answer w.how ≡ true → IsFirst firsts end
  pub flows : FlowsTo x P e p w.how end f

-- the values of an answer as they stand before a RETRIEVE of it
abbrev pub handing_of : ℕ → List Source
handing_of count = map (λ k. Of (Answered k)) (range_with_len 0 count)

-- the answer of which the statement at the point is the first RETRIEVE
abbrev pub IsHandedBy : AnswerTable → List (Option ℕ) → ℕ → Option ℕ → Type 0
IsHandedBy a firsts point None =
    (n : ℕ) → awaited_at a point ≡ Some n → slice_get firsts n ≡ Some (Some point) → ⊥
IsHandedBy a firsts point (Some n) =
    (awaited_at a point ≡ Some n) × (slice_get firsts n ≡ Some (Some point))

-- all that is known is least, and an answer has a first RETRIEVE exactly where one is reached
pub record IsLeastSoFar (x : Exchange) (t : FlowTable) (e : ℕ) (s : Search) : Type 0 where
  pub of_entry : s.rows.entry ≡ e
  pub of_slots : s.rows.marks.slots ≡ slots_of t
  pub least : (f : Fact) → Knows s.rows f → IsLeast x f
  pub long : length s.firsts ≡ length x.signals
  pub retrieve : (n q : ℕ) → slice_get s.firsts n ≡ Some (Some q) → IsRetrieveAt x q n
  pub reached : (n q : ℕ) → slice_get s.firsts n ≡ Some (Some q) → Reached (Knows s.rows) e q
  pub found : (n q : ℕ) → IsRetrieveAt x q n → Reached (Knows s.rows) e q
      → (first : ℕ) × (slice_get s.firsts n ≡ Some (Some first))

-- a point became the first of an answer, so that it is marked, and the RETURNs of the answer are
pub record IsNew (x : Exchange) (marked : List ℕ) (n q : ℕ) : Type 0 where
  pub own : Contains marked q
  pub returns : (r : ℕ) → IsReturnAt x r n → Contains marked r

-- more is known: each point at which something is new is marked, and so is the first RETRIEVE of an
-- answer where another one became reached; each fact more leaves room for so many marks
pub record Goes (x : Exchange) (t : FlowTable) (a : AnswerTable) (e : ℕ) (s new : Search) : Type
    0 where
  pub stands : IsLeastSoFar x t e new
  pub more : (f : Fact) → Knows s.rows f → Knows new.rows f
  pub still : (p : ℕ) → Contains s.marks p → Contains new.marks p
  pub fresh : (f : Fact) → Knows new.rows f → Knows s.rows f ⊎ Contains new.marks f.point
  pub kept : (n q : ℕ) → slice_get s.firsts n ≡ Some (Some q)
      → slice_get new.firsts n ≡ Some (Some q)
  pub firsts : (n q : ℕ) → slice_get new.firsts n ≡ Some (Some q)
      → (slice_get s.firsts n ≡ Some (Some q)) ⊎ IsNew x new.marks n q
  pub reached : (n q p : ℕ) → IsRetrieveAt x q n → Reached (Knows new.rows) e q
      → slice_get new.firsts n ≡ Some (Some p) → Reached (Knows s.rows) e q ⊎ Contains new.marks p
  pub counted : length new.marks + missing new.rows * most_marks a ≤ length s.marks
      + missing s.rows * most_marks a

-- so it is, and all these facts are known
pub record Went (x : Exchange) (t : FlowTable) (a : AnswerTable) (e : ℕ) (G : Fact → Type 0)
    (s new : Search) : Type 0 where
  pub goes : Goes x t a e s new
  pub all : (f : Fact) → G f → Knows new.rows f

-- so it stands, what the start gives is known, and so is what goes on from a point, unless the
-- point is marked
pub record Searches (x : Exchange) (t : FlowTable) (e : ℕ) (s : Search) : Type 0 where
  pub stands : IsLeastSoFar x t e s
  pub start : (f : Fact) → GivenAtStart x (Knows s.rows) e f → Knows s.rows f
  pub points : (p : ℕ) → Contains s.marks p ⊎ ((f : Fact) → GoesOn x s.firsts (Knows s.rows) e p f
      → Knows s.rows f)

-- a point was looked at
pub record IsVisited (x : Exchange) (t : FlowTable) (a : AnswerTable) (e : ℕ)
    (s new : Search) : Type 0 where
  pub searches : Searches x t e new
  pub counted : length new.marks + missing new.rows * most_marks a ≤ length s.marks
      + missing s.rows * most_marks a

-- the search that is left where a point is taken
abbrev pub without : Search → List ℕ → Search
without s marks = record { rows = s.rows; marks = marks; firsts = s.firsts }

-- exactly the least facts of the entry are known
pub record AreFound (x : Exchange) (t : FlowTable) (e : ℕ) (k : BitRows) : Type 0 where
  pub of_slots : k.marks.slots ≡ slots_of t
  pub exact : (f : Fact) → Knows k f ↔ ((f.entry ≡ e) × IsLeast x f)
