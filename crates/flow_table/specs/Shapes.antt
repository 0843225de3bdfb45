-- How a way from a statement hands values on: in one of nine shapes, whatever the kind of the
-- statement.
--
-- A fact of every flow is shown shape by shape. That each way of each kind is of a shape is shown
-- once, by `ways_shaped` in `proofs/Shaping`; so a new kind of statement that hands values on as
-- others do changes no proof but that.
use Rattle.std.specs.Prelude.{◌≡◌, ℕ, List, [], ◌∷◌, map, Some, slice_get}
use Rattle.exchange_model.specs.declared.exchange.Exchange.{Exchange}
use Rattle.exchange_model.specs.declared.expr.Expr.{Expr}
use Rattle.exchange_model.specs.declared.signal.SignalKind.TheVariants.{Combined}
use Rattle.exchange_model.specs.declared.stmt.StmtKind.TheOpen as stmt
use Rattle.exchange_model.specs.Inside.{own_exprs}
use Rattle.source_meaning.specs.Named.{Layer}
use Rattle.flow_points.specs.declared.fact.Value.TheVariants.{Any}
use Rattle.flow_points.specs.declared.flow.Passing.{Passing}
use Rattle.flow_points.specs.declared.flow.Passing.TheVariants.{Kept, Sets, Takes, Retrieves}
use Rattle.flow_points.specs.declared.flow.Passing.TheVariants.{Begins, Passes, Calls, Answers}
use Rattle.flow_points.specs.declared.flow.Source.TheVariants.{Is}
use Rattle.flow_points.specs.Flows.{LeadsTo}
use Rattle.flow_points.specs.Places.{Place}
use Rattle.flow_points.specs.Sources.{expr_source}
use Rattle.flow_table.specs.declared.way.Ends.TheVariants as ends
use Rattle.flow_table.specs.declared.way.Way.{Way}
use Rattle.flow_table.specs.Ways.{IsWayEnd, WayLeads}

-- the shape of a way from a statement of this layer
pub data Shape (x : Exchange) (l : Layer) (w : Way) : Type 0 where
  -- all values stay
  Stays : w.how ≡ Kept → Shape x l w
  -- a temporary gets the value of the statement's expression, or some number
  Assigns : (temp : ℕ) (e : Expr) → own_exprs l ≡ e ∷ [] → w.how ≡ Sets temp (expr_source e)
      → Shape x l w
  Finds : (temp : ℕ) → w.how ≡ Sets temp (Is Any) → Shape x l w
  -- temporaries get the values of a signal, or of an answer
  TakesGiven : (signal : ℕ) (temps : List ℕ) → l ≡ stmt.Enter signal temps → w.how ≡ Takes temps
      → Shape x l w
  TakesAnswer : (answer : ℕ) (temps : List ℕ) → l ≡ stmt.Retrieve answer temps
      → w.how ≡ Retrieves temps → Shape x l w
  -- an activation begins: with the values of the statement's expressions, with as many entry
  -- values, or for an answer
  Starts : (values : List Expr) → own_exprs l ≡ values → w.how ≡ Begins (map expr_source values)
      → Shape x l w
  Transfers : (count : ℕ) → w.how ≡ Passes count → Shape x l w
  Asks : (signal : ℕ) (name : List ℕ) (count answer : ℕ) (values : List Expr)
      → slice_get x.signals signal ≡ Some (Combined name count answer)
      → own_exprs l ≡ values → w.how ≡ Calls (map expr_source values) answer → Shape x l w
  -- an answer is given, to all its RETRIEVEs
  GivesAnswer : (answer : ℕ) (values : List Expr) → l ≡ stmt.Return answer values
      → w.how ≡ Answers (map expr_source values)
      → w.ends ≡ ends.Retrieves answer → Shape x l w

-- what leads from a statement to a point is a way of some shape, which leads as well to its other
-- ends
pub record LedBy (x : Exchange) (at : Place) (q : ℕ) (how : Passing) : Type 0 where
  pub way : Way
  pub shape : Shape x at.layer way
  pub leads : WayLeads x way q how
  pub others : (r : ℕ) → IsWayEnd x way.ends r → LeadsTo x at r how
