-- The ways from a statement as they are kept, and what they lead to. Each point to which several
-- flows go with the same values is an end of one way, and an answer goes to all its RETRIEVEs,
-- which are kept once.
use Rattle.std.specs.Prelude.{◌≡◌, ◌↔◌, ℕ, Bool, is_none, List, [], ◌∷◌, ◌++◌, length, map, Option}
use Rattle.std.specs.Prelude.{Some, None, slice_get, if◌then◌else◌}
use Rattle.std.specs.List.{Contains, list_any, range_with_len}
use Rattle.exchange_model.specs.declared.exchange.Exchange.{Exchange}
use Rattle.exchange_model.specs.declared.block.Enter.{Enter as Row}
use Rattle.exchange_model.specs.Inside.{most}
use Rattle.source_meaning.specs.Changes.{value_count}
use Rattle.exchange_model.specs.declared.expr.Expr.{Expr}
use Rattle.exchange_model.specs.declared.signal.SignalKind.{SignalKind}
use Rattle.exchange_model.specs.declared.signal.SignalKind.TheVariants.{Buffered, Direct, Combined}
use Rattle.exchange_model.specs.declared.signal.SignalKind.TheVariants.{Outside}
use Rattle.exchange_model.specs.declared.stmt.Receiver.{Receiver}
use Rattle.exchange_model.specs.declared.stmt.Receiver.TheVariants as receiver
use Rattle.exchange_model.specs.declared.stmt.When.{When, out-When}
use Rattle.exchange_model.specs.declared.stmt.StmtKind.TheOpen as stmt
use Rattle.source_meaning.specs.Named.{Layer}
use Rattle.source_meaning.specs.Rests.{first_point}
use Rattle.flow_points.specs.declared.fact.Value.TheVariants.{Any}
use Rattle.flow_points.specs.declared.flow.Source.TheVariants.{Is}
use Rattle.flow_points.specs.declared.flow.Passing.{Passing}
use Rattle.flow_points.specs.declared.flow.Passing.TheVariants.{Kept, Sets, Takes, Retrieves}
use Rattle.flow_points.specs.declared.flow.Passing.TheVariants.{Begins, Passes, Calls, Answers}
use Rattle.flow_points.specs.Places.{Place, label_point, enter_point, receives, IsRetrieveAt}
use Rattle.flow_points.specs.Sources.{expr_source}
use Rattle.flow_points.specs.Flows.{passed, LeadsTo}
use Rattle.flow_table.specs.declared.way.Ends.{Ends}
use Rattle.flow_table.specs.declared.way.Ends.TheVariants as ends
use Rattle.flow_table.specs.declared.way.Way.{Way}

-- what ways lead to

abbrev pub IsWayEnd : Exchange → Ends → ℕ → Type 0
IsWayEnd x (ends.Points points) q = Contains points q
IsWayEnd x (ends.Retrieves answer) q = IsRetrieveAt x q answer

pub record WayLeads (x : Exchange) (w : Way) (q : ℕ) (how : Passing) : Type 0 where
  pub end : IsWayEnd x w.ends q
  pub is : how ≡ w.how

pub record WaysLead (x : Exchange) (ways : List Way) (q : ℕ) (how : Passing) : Type 0 where
  pub way : Way
  pub one : Contains ways way
  pub leads : WayLeads x way q how

-- these are the ways from a statement
pub record AreWays (x : Exchange) (at : Place) (ways : List Way) : Type 0 where
  pub exact : (q : ℕ) (how : Passing) → WaysLead x ways q how ↔ LeadsTo x at q how

-- the ways of each kind of statement

abbrev pub listed : Option ℕ → List ℕ
listed None = []
listed (Some q) = q ∷ []

abbrev pub to_points : Passing → List ℕ → Way
to_points how points = record { how = how; ends = ends.Points points }

abbrev pub to_next : Passing → Option ℕ → Way
to_next how next = to_points how (listed next)

-- those of these blocks that receive a signal
abbrev pub receiving : Exchange → ℕ → List ℕ → List ℕ
receiving x signal [] = []
receiving x signal (b ∷ bs) =
    (if receives x signal b then b ∷ receiving x signal bs else receiving x signal bs)

-- all blocks that receive it
abbrev pub all_receiving : Exchange → ℕ → List ℕ
all_receiving x signal = receiving x signal (range_with_len 0 (length x.blocks))

-- the blocks to which a signal may go
abbrev pub receivers_of : Exchange → ℕ → Option Receiver → List ℕ
receivers_of x signal None = []
receivers_of x signal (Some (receiver.Block b)) = b ∷ []
receivers_of x signal (Some (receiver.Held holder)) = all_receiving x signal

-- the ENTERs of a signal in these blocks
abbrev pub enters_in : Exchange → ℕ → List ℕ → List ℕ
enters_in x signal [] = []
enters_in x signal (b ∷ bs) = listed (enter_point x b signal) ++ enters_in x signal bs

abbrev pub to_enters : Exchange → ℕ → Option Receiver → Passing → Way
to_enters x signal to how = to_points how (enters_in x signal (receivers_of x signal to))

-- where the choices of a CASE begin that have a statement to begin with
abbrev pub begun_points : List When → List ℕ
begun_points [] = []
begun_points (w ∷ ws) = listed (first_point (out-When w).body None) ++ begun_points ws

-- a choice has no statement to begin with
abbrev pub is_bare : When → Bool
is_bare w = is_none (first_point (out-When w).body None)

-- where the bare choices lead to, if there is one
abbrev pub bare_points : List When → Option ℕ → List ℕ
bare_points whens next = (if list_any is_bare whens then listed next else [])

-- where the choices of a CASE begin; all bare ones at one point
abbrev pub choice_points : List When → Option ℕ → List ℕ
choice_points whens next = begun_points whens ++ bare_points whens next

abbrev pub send_ways : Exchange → Option SignalKind → Option ℕ → ℕ → Option Receiver → List Expr
    → List Way
send_ways x (Some (Buffered name level count)) next signal to values = to_next Kept next ∷ []
send_ways x (Some (Direct name count)) next signal to values =
    to_enters x signal to (Begins (map expr_source values)) ∷ []
send_ways x (Some (Combined name count answer)) next signal to values =
    to_enters x signal to (Calls (map expr_source values) answer) ∷ to_next Kept next ∷ []
send_ways x (Some (Outside name count)) next signal to values = to_next Kept next ∷ []
send_ways x _ next signal to values = []

abbrev pub layer_ways : Exchange → ℕ → ℕ → Option ℕ → Layer → List Way
layer_ways x b p next (stmt.Enter signal temps) = to_next (Takes temps) next ∷ []
layer_ways x b p next (stmt.SetTemp temp e) = to_next (Sets temp (expr_source e)) next ∷ []
layer_ways x b p next (stmt.SetVariable variable e) = to_next Kept next ∷ []
layer_ways x b p next (stmt.SetField file field pointer e) = to_next Kept next ∷ []
layer_ways x b p next (stmt.Goto label) = to_next Kept (label_point x b label) ∷ []
layer_ways x b p next (stmt.IfGoto cond label) =
    to_points Kept (listed (label_point x b label) ++ listed next) ∷ []
layer_ways x b p next (stmt.If cond yes_part no_part) =
    to_points Kept (listed (first_point yes_part next) ++ listed (first_point no_part next)) ∷ []
layer_ways x b p next (stmt.Case e whens otherwise) =
    to_points Kept (choice_points whens next ++ listed (first_point otherwise next)) ∷ []
layer_ways x b p next (stmt.On temp from upto body) =
    to_next (Sets temp (Is Any)) (first_point body (Some p)) ∷ to_next Kept next ∷ []
layer_ways x b p next (stmt.ForFirst temp file field rel e label) =
    to_next (Sets temp (Is Any)) (label_point x b label) ∷ to_next Kept next ∷ []
layer_ways x b p next (stmt.Send signal to values fresh) =
    send_ways x (slice_get x.signals signal) next signal to values
layer_ways x b p next (stmt.Retrieve answer temps) = to_next (Retrieves temps) next ∷ []
layer_ways x b p next (stmt.Return answer values) =
    record { how = Answers (map expr_source values); ends = ends.Retrieves answer } ∷ []
layer_ways x b p next (stmt.Transfer signal to) =
    to_enters x signal to (Passes (passed x b signal)) ∷ []
layer_ways x b p next (stmt.Seize temp file label) =
    to_next (Sets temp (Is Any)) next ∷ to_next Kept (label_point x b label) ∷ []
layer_ways x b p next (stmt.Free temp file) = to_next Kept next ∷ []
layer_ways x b p next stmt.Exit = []
layer_ways x b p next stmt.Finish = []

abbrev pub ways_of : Exchange → Place → List Way
ways_of x at = layer_ways x at.block at.point at.next at.layer

-- the most values that a signal of these rows has
abbrev pub most_of : Exchange → List Row → ℕ
most_of x rows = most (map (λ (r : Row). value_count x r.signal) rows)
