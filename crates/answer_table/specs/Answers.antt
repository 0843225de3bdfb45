-- Where answers are retrieved, and from where they return.
use Rattle.std.specs.Prelude.{◌≡◌, ℕ, Bool, true, false, List, length, Option, Some, None}
use Rattle.std.specs.Prelude.{slice_get}
use Rattle.std.specs.List.{Contains}
use Rattle.exchange_model.specs.declared.exchange.Exchange.{Exchange}
use Rattle.exchange_model.specs.declared.stmt.StmtKind.TheOpen as stmt
use Rattle.exchange_model.specs.Fits.{retrieved}
use Rattle.source_meaning.specs.Named.{Layer}
use Rattle.flow_points.specs.declared.fact.Fact.{Fact}
use Rattle.flow_points.specs.declared.flow.Passing.{Passing}
use Rattle.flow_points.specs.declared.flow.Passing.TheVariants.{Answers}
use Rattle.flow_points.specs.Places.{Place, StandsAt}
use Rattle.flow_table.specs.declared.way.Way.{Way}
use Rattle.flow_table.specs.declared.way.Ends.TheVariants as ends
use Rattle.flow_table.specs.PointLists.{ArePointLists, IsOfAnswer}
use Rattle.answer_table.specs.declared.answers.AnswerTable.{AnswerTable}

-- the answer of a RETURN
abbrev pub returned : Layer → Option ℕ
returned (stmt.Return answer values) = Some answer
returned _ = None

-- a RETURN of the answer stands at the point
abbrev pub IsReturnAt : Exchange → ℕ → ℕ → Type 0
IsReturnAt x point answer = IsOfAnswer returned x point answer

-- the answers of an exchange: what each statement awaits, and the RETURNs of each signal
pub record AreAnswers (x : Exchange) (t : AnswerTable) : Type 0 where
  pub each_point : length t.awaited ≡ length x.points
  pub awaits : (p : ℕ) (at : Place) → StandsAt x p at
      → slice_get t.awaited p ≡ Some (retrieved at.layer)
  pub returns : ArePointLists returned x t.returns

abbrev pub known_answer : Option (Option ℕ) → Option ℕ
known_answer None = None
known_answer (Some awaited) = awaited

-- the answer that the statement at a point awaits
abbrev pub awaited_at : AnswerTable → ℕ → Option ℕ
awaited_at t point = known_answer (slice_get t.awaited point)

-- a RETURN of the answer, by the table
pub record ReturnsOf (t : AnswerTable) (answer p : ℕ) : Type 0 where
  pub points : List ℕ
  pub there : slice_get t.returns answer ≡ Some points
  pub among : Contains points p

-- an answer is given along a way
abbrev pub is_answer : Passing → Bool
is_answer (Answers values) = true
is_answer _ = false

-- .. to the RETRIEVEs of it
abbrev pub answer_way : Passing → ℕ → Way
answer_way how answer = record { how = how; ends = ends.Retrieves answer }

-- this fact and no other
abbrev pub IsFact : Fact → Fact → Type 0
IsFact g f = f ≡ g
