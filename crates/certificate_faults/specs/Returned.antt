-- What RETURNs give.
--
-- From each RETURN of an answer a way leads to all RETRIEVEs of it. So what they give is joined
-- first: facts that name the answer in the place of a point. Then each RETRIEVE that is reached
-- gets them once.
use Rattle.std.specs.Prelude.{◌≡◌, ◌⊎◌, ◌↔◌, ℕ, ◌<◌, List, Contains, Some, true, slice_get}
use Rattle.exchange_model.specs.declared.exchange.Exchange.{Exchange}
use Rattle.source_meaning.specs.Changes.{value_count}
use Rattle.flow_points.specs.declared.fact.Fact.{Fact}
use Rattle.flow_points.specs.declared.fact.Slot.{Slot}
use Rattle.flow_points.specs.declared.fact.Slot.TheVariants.{Answered}
use Rattle.flow_points.specs.declared.flow.Source.TheVariants.{Of}
use Rattle.flow_points.specs.Facts.{Facts, Reached, SourceGives, fact}
use Rattle.flow_points.specs.Places.{IsRetrieveAt}
use Rattle.flow_points.specs.Sources.{source_of}
use Rattle.flow_table.specs.declared.row.FlowTable.{FlowTable}
use Rattle.flow_table.specs.declared.row.Row.{Row}
use Rattle.flow_table.specs.declared.way.Ends.TheVariants as ends
use Rattle.flow_table.specs.declared.way.Way.{Way}
use Rattle.flow_table.specs.Giving.{SlotGives}
use Rattle.fact_flows.specs.Flows.{OneGives, WayGives}
use Rattle.answer_table.specs.Answers.{is_answer}

-- the way goes back to the RETRIEVEs of the answer
pub record IsBack (w : Way) (answer : ℕ) : Type 0 where
  pub ends : w.ends ≡ ends.Retrieves answer
  pub answers : is_answer w.how ≡ true

-- the slot is of a value of the answer
abbrev pub IsAnswered : Exchange → ℕ → Slot → Type 0
IsAnswered x answer (Answered k) = k < value_count x answer
IsAnswered x answer _ = ⊥

-- exactly those slots
pub record AreAnswered (x : Exchange) (answer : ℕ) (slots : List Slot) : Type 0 where
  pub exact : (s : Slot) → Contains slots s ↔ IsAnswered x answer s

-- such a way gives the value, to its answer
pub record WayReturns (x : Exchange) (P : Facts) (e p : ℕ) (w : Way) (f : Fact) : Type 0 where
  pub back : IsBack w f.point
  pub entry : f.entry ≡ e
  pub slot : IsAnswered x f.point f.slot
  pub gives : SourceGives P e p (source_of w.how f.slot) f.value

-- such a way from the point does, which is reached
pub record PointReturns (x : Exchange) (t : FlowTable) (P : Facts) (e p : ℕ) (f : Fact) : Type
    0 where
  pub reached : Reached P e p
  pub row : Row
  pub there : slice_get t.rows p ≡ Some row
  pub gives : OneGives (WayReturns x P e p) row.ways f

abbrev pub returned_at : Exchange → FlowTable → Facts → Fact → Facts
returned_at x t P r f = PointReturns x t P r.entry r.point f

-- one from some point does
pub record IsReturned (x : Exchange) (t : FlowTable) (P : Facts) (f : Fact) : Type 0 where
  pub from : ℕ
  pub gives : PointReturns x t P f.entry from f

-- exactly what is given so
pub record AreReturned (x : Exchange) (t : FlowTable) (P : Facts) (joined : List Fact) : Type
    0 where
  pub exact : (f : Fact) → Contains joined f ↔ IsReturned x t P f

-- what is joined for one slot of an answer, before a RETRIEVE
abbrev pub handed : Facts → ℕ → ℕ → ℕ → Slot → Facts
handed J e answer q s f = SlotGives J e answer (Of s) q s f

-- and for all of them
pub record IsHandedOut (x : Exchange) (J : Facts) (e answer q : ℕ) (f : Fact) : Type 0 where
  pub entry : f.entry ≡ e
  pub point : f.point ≡ q
  pub slot : IsAnswered x answer f.slot
  pub joined : J (fact e answer f.slot f.value)

-- a RETRIEVE that is reached gets the value
pub record IsAnsweredAt (x : Exchange) (t : FlowTable) (P : Facts) (e q : ℕ) (f : Fact) : Type
    0 where
  pub entry : f.entry ≡ e
  pub point : f.point ≡ q
  pub reached : Reached P e q
  pub answer : ℕ
  pub retrieve : IsRetrieveAt x q answer
  pub returned : IsReturned x t P (fact e answer f.slot f.value)

-- any other way gives the fact
pub record WaySends (x : Exchange) (P : Facts) (e p : ℕ) (w : Way) (f : Fact) : Type 0 where
  pub onward : (answer : ℕ) → IsBack w answer → ⊥
  pub gives : WayGives x P e p w f

-- any other way from the point does, which is reached
pub record PointSends (x : Exchange) (t : FlowTable) (P : Facts) (e p : ℕ) (f : Fact) : Type 0 where
  pub reached : Reached P e p
  pub row : Row
  pub there : slice_get t.rows p ≡ Some row
  pub gives : OneGives (WaySends x P e p) row.ways f

-- it is given from the point by another way than an answer, or to the point by an answer
abbrev pub given_about : Exchange → FlowTable → Facts → Fact → Facts
given_about x t P r f = PointSends x t P r.entry r.point f ⊎ IsAnsweredAt x t P r.entry r.point f
