-- Each way of each kind of statement is of a shape.
use Rattle.std.proofs.Common.{◌≡◌, ℕ, Bool, List, [], ◌∷◌, Option, Some, slice_get, refl}
use Rattle.std.specs.List.{AllByRecursion}
use Rattle.exchange_model.specs.declared.exchange.Exchange.{Exchange}
use Rattle.exchange_model.specs.declared.expr.Expr.{Expr}
use Rattle.exchange_model.specs.declared.signal.SignalKind.{SignalKind}
use Rattle.exchange_model.specs.declared.signal.SignalKind.TheVariants.{Buffered, Direct, Combined}
use Rattle.exchange_model.specs.declared.signal.SignalKind.TheVariants.{Outside}
use Rattle.exchange_model.specs.declared.stmt.Receiver.{Receiver}
use Rattle.exchange_model.specs.declared.stmt.StmtKind.TheOpen as stmt
use Rattle.source_meaning.specs.Named.{Layer}
use Rattle.source_meaning.proofs.Lists.{all_contained}
use Rattle.flow_points.specs.declared.flow.Passing.{Passing}
use Rattle.flow_points.specs.Flows.{LeadsTo, passed}
use Rattle.flow_points.specs.Places.{Place}
use Rattle.flow_table.specs.declared.way.Way.{Way}
use Rattle.flow_table.specs.Shapes.{Shape, LedBy, Stays, Assigns, Finds, TakesGiven, TakesAnswer}
use Rattle.flow_table.specs.Shapes.{Starts, Transfers, Asks, GivesAnswer}
use Rattle.flow_table.specs.Ways.{send_ways, layer_ways, ways_of}
use Rattle.flow_table.proofs.Telling.{ways_exact}

module _ (x : Exchange) where
  abbrev Shaped : Layer → List Way → Type 0
  Shaped l ways = AllByRecursion (Shape x l) ways

  sends_shaped : (o : Option SignalKind) (next : Option ℕ) (signal : ℕ) (to : Option Receiver) (values : List Expr)
      (fresh : Bool) → slice_get x.signals signal ≡ o
      → Shaped (stmt.Send signal to values fresh) (send_ways x o next signal to values)
  sends_shaped (Some (Buffered name level count)) next signal to values fresh there = (Stays refl, tt)
  sends_shaped (Some (Direct name count)) next signal to values fresh there = (Starts values refl refl, tt)
  sends_shaped (Some (Combined name count answer)) next signal to values fresh there = (Asks signal name count answer values there refl refl, (Stays refl, tt))
  sends_shaped (Some (Outside name count)) next signal to values fresh there = (Stays refl, tt)
  sends_shaped _ next signal to values fresh there = tt

  ways_shaped : (b p : ℕ) (next : Option ℕ) (l : Layer) → Shaped l (layer_ways x b p next l)
  ways_shaped b p next (stmt.Enter signal temps) = (TakesGiven signal temps refl refl, tt)
  ways_shaped b p next (stmt.SetTemp temp e) = (Assigns temp e refl refl, tt)
  ways_shaped b p next (stmt.SetVariable variable e) = (Stays refl, tt)
  ways_shaped b p next (stmt.SetField file field pointer e) = (Stays refl, tt)
  ways_shaped b p next (stmt.Goto label) = (Stays refl, tt)
  ways_shaped b p next (stmt.IfGoto cond label) = (Stays refl, tt)
  ways_shaped b p next (stmt.If cond yes_part no_part) = (Stays refl, tt)
  ways_shaped b p next (stmt.Case e whens otherwise) = (Stays refl, tt)
  ways_shaped b p next (stmt.On temp from upto body) = (Finds temp refl, (Stays refl, tt))
  ways_shaped b p next (stmt.ForFirst temp file field rel e label) = (Finds temp refl, (Stays refl, tt))
  ways_shaped b p next (stmt.Send signal to values fresh) = sends_shaped (slice_get x.signals signal) next signal to values fresh refl
  ways_shaped b p next (stmt.Retrieve answer temps) = (TakesAnswer answer temps refl refl, tt)
  ways_shaped b p next (stmt.Return answer values) = (GivesAnswer answer values refl refl refl, tt)
  ways_shaped b p next (stmt.Transfer signal to) = (Transfers (passed x b signal) refl, tt)
  ways_shaped b p next (stmt.Seize temp file label) = (Finds temp refl, (Stays refl, tt))
  ways_shaped b p next (stmt.Free temp file) = (Stays refl, tt)
  ways_shaped b p next stmt.Exit = tt
  ways_shaped b p next stmt.Finish = tt

  -- what holds of each shape holds of each way from a statement
  each_shape : (l : Layer) (P : Way → Type 0) → ((w : Way) → Shape x l w → P w) → (ways : List Way) → Shaped l ways → AllByRecursion P ways
  each_shape l P so [] shaped = tt
  each_shape l P so (w ∷ ways) shaped = (so w shaped.0, each_shape l P so ways shaped.1)

  pub each_way : (at : Place) (P : Way → Type 0) → ((w : Way) → Shape x at.layer w → P w) → AllByRecursion P (ways_of x at)
  each_way at P so = each_shape at.layer P so (ways_of x at) (ways_shaped at.block at.point at.next at.layer)

  pub led_by : (at : Place) (q : ℕ) (how : Passing) → LeadsTo x at q how → LedBy x at q how
  led_by at q how leads =
      let w = ((ways_exact x at).exact q how).1 leads in
      record {
        way = w.way;
        shape = all_contained (Shape x at.layer) (ways_of x at) w.way (ways_shaped at.block at.point at.next at.layer) w.one;
        leads = w.leads;
        others = λ r end. ((ways_exact x at).exact r how).0 (record { way = w.way; one = w.one; leads = record { end = end; is = w.leads.is } });
      }
