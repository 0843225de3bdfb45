-- The flow rules: where each statement leads, and how values go along.
use Rattle.std.specs.Prelude.{◌≡◌, ◌⊎◌, ℕ, min, List, map, Option, Some, slice_get}
use Rattle.std.specs.List.{Contains}
use Rattle.exchange_model.specs.declared.exchange.Exchange.{Exchange}
use Rattle.exchange_model.specs.declared.expr.Expr.{Expr}
use Rattle.exchange_model.specs.declared.signal.SignalKind.{SignalKind}
use Rattle.exchange_model.specs.declared.signal.SignalKind.TheVariants.{Buffered, Direct, Combined}
use Rattle.exchange_model.specs.declared.signal.SignalKind.TheVariants.{Outside}
use Rattle.exchange_model.specs.declared.stmt.Receiver.{Receiver}
use Rattle.exchange_model.specs.declared.stmt.When.{When, out-When}
use Rattle.exchange_model.specs.declared.stmt.StmtKind.TheOpen as stmt
use Rattle.source_meaning.specs.Named.{Layer}
use Rattle.source_meaning.specs.Changes.{value_count}
use Rattle.source_meaning.specs.Rests.{first_point}
use Rattle.flow_points.specs.declared.fact.Value.TheVariants.{Any}
use Rattle.flow_points.specs.declared.flow.Source.TheVariants.{Is}
use Rattle.flow_points.specs.declared.flow.Passing.{Passing}
use Rattle.flow_points.specs.declared.flow.Passing.TheVariants.{Kept, Sets, Takes, Retrieves}
use Rattle.flow_points.specs.declared.flow.Passing.TheVariants.{Begins, Passes, Calls, Answers}
use Rattle.flow_points.specs.Places.{Place, label_point, enter_point, MayReceive, IsRetrieveAt}
use Rattle.flow_points.specs.Slots.{given_count}
use Rattle.flow_points.specs.Sources.{expr_source}

-- a flow goes to this point, if there is one, and values go along so
pub record GoesAlong (to : Option ℕ) (made : Passing) (q : ℕ) (how : Passing) : Type 0 where
  pub ends : to ≡ Some q
  pub is : how ≡ made

-- a signal begins an activation at its ENTER in each block to which it may go
pub record Enters (x : Exchange) (signal : ℕ) (to : Option Receiver) (made : Passing) (q : ℕ)
    (how : Passing) : Type 0 where
  pub receiver : ℕ
  pub receives : MayReceive x signal to receiver
  pub goes : GoesAlong (enter_point x receiver signal) made q how

-- an answer goes to each RETRIEVE of it
pub record Returns (x : Exchange) (answer : ℕ) (made : Passing) (q : ℕ) (how : Passing) : Type
    0 where
  pub retrieve : IsRetrieveAt x q answer
  pub is : how ≡ made

-- a choice of a CASE goes on at its first statement
pub record Chooses (whens : List When) (next : Option ℕ) (q : ℕ) (how : Passing) : Type 0 where
  pub choice : When
  pub one : Contains whens choice
  pub goes : GoesAlong (first_point (out-When choice).body next) Kept q how

-- how many entry values a TRANSFER of the signal takes along from a block
abbrev pub passed : Exchange → ℕ → ℕ → ℕ
passed x b signal = min (value_count x signal) (given_count x b)

-- a SEND, by the kind of its signal
abbrev pub SendLeads : Exchange → Option SignalKind → Option ℕ → ℕ → Option Receiver → List Expr → ℕ
    → Passing → Type 0
SendLeads x (Some (Buffered name level count)) next signal to values q how =
    GoesAlong next Kept q how
SendLeads x (Some (Direct name count)) next signal to values q how =
    Enters x signal to (Begins (map expr_source values)) q how
SendLeads x (Some (Combined name count answer)) next signal to values q how =
    Enters x signal to (Calls (map expr_source values) answer) q how ⊎ GoesAlong next Kept q how
SendLeads x (Some (Outside name count)) next signal to values q how = GoesAlong next Kept q how
SendLeads x _ next signal to values q how = ⊥

-- the statement of a block, at its point and before its next, leads to a point, and values go along
-- so: one line a kind
abbrev pub Leads : Exchange → ℕ → ℕ → Option ℕ → Layer → ℕ → Passing → Type 0
Leads x b p next (stmt.Enter signal temps) q how = GoesAlong next (Takes temps) q how
Leads x b p next (stmt.SetTemp temp e) q how = GoesAlong next (Sets temp (expr_source e)) q how
Leads x b p next (stmt.SetVariable variable e) q how = GoesAlong next Kept q how
Leads x b p next (stmt.SetField file field pointer e) q how = GoesAlong next Kept q how
Leads x b p next (stmt.Goto label) q how = GoesAlong (label_point x b label) Kept q how
Leads x b p next (stmt.IfGoto cond label) q how =
    GoesAlong (label_point x b label) Kept q how ⊎ GoesAlong next Kept q how
Leads x b p next (stmt.If cond yes_part no_part) q how = GoesAlong (first_point yes_part next) Kept
    q how ⊎ GoesAlong (first_point no_part next) Kept q how
Leads x b p next (stmt.Case e whens otherwise) q how =
    Chooses whens next q how ⊎ GoesAlong (first_point otherwise next) Kept q how
Leads x b p next (stmt.On temp from upto body) q how =
    GoesAlong (first_point body (Some p)) (Sets temp (Is Any)) q how ⊎ GoesAlong next Kept q how
Leads x b p next (stmt.ForFirst temp file field rel e label) q how =
    GoesAlong (label_point x b label) (Sets temp (Is Any)) q how ⊎ GoesAlong next Kept q how
Leads x b p next (stmt.Send signal to values fresh) q how =
    SendLeads x (slice_get x.signals signal) next signal to values q how
Leads x b p next (stmt.Retrieve answer temps) q how = GoesAlong next (Retrieves temps) q how
Leads x b p next (stmt.Return answer values) q how =
    Returns x answer (Answers (map expr_source values)) q how
Leads x b p next (stmt.Transfer signal to) q how =
    Enters x signal to (Passes (passed x b signal)) q how
Leads x b p next (stmt.Seize temp file label) q how =
    GoesAlong next (Sets temp (Is Any)) q how ⊎ GoesAlong (label_point x b label) Kept q how
Leads x b p next (stmt.Free temp file) q how = GoesAlong next Kept q how
Leads x b p next stmt.Exit q how = ⊥
Leads x b p next stmt.Finish q how = ⊥

-- a statement that stands in the exchange leads to a point
abbrev pub LeadsTo : Exchange → Place → ℕ → Passing → Type 0
LeadsTo x at q how = Leads x at.block at.point at.next at.layer q how
