-- The rows of the table, one for each point.
use Rattle.std.specs.Prelude.{◌≡◌, ◌↔◌, ℕ, ◌<◌, List, length, Some, slice_get}
use Rattle.std.specs.List.{AllByRecursion, Contains}
use Rattle.exchange_model.specs.declared.exchange.Exchange.{Exchange}
use Rattle.exchange_model.specs.Fits.{retrieved}
use Rattle.flow_points.specs.declared.fact.Slot.{Slot}
use Rattle.flow_points.specs.declared.fact.Slot.TheVariants.{Temp, Given, Answered, Depth, Awaits}
use Rattle.flow_points.specs.Places.{Place, StandsAt, IsRetrieveAt}
use Rattle.flow_points.specs.Slots.{temp_count, given_count, answer_count}
use Rattle.flow_table.specs.declared.row.Row.{Row}
use Rattle.flow_table.specs.declared.row.FlowTable.{FlowTable}
use Rattle.flow_table.specs.declared.table.BlockSlots.{BlockSlots}
use Rattle.flow_table.specs.declared.way.Way.{Way}
use Rattle.flow_table.specs.Small.{IsSmall}
use Rattle.flow_table.specs.Ways.{AreWays}

-- so many temporaries and entry values stand before each point of the block
pub record AreSlotsOf (x : Exchange) (s : BlockSlots) : Type 0 where
  pub temps : s.temps ≡ temp_count x s.block
  pub given : s.given ≡ given_count x s.block

-- a statement's row: its slots and its ways
pub record IsRowOf (x : Exchange) (at : Place) (r : Row) : Type 0 where
  pub temps : r.temps ≡ temp_count x at.block
  pub given : r.given ≡ given_count x at.block
  pub answered : r.answered ≡ answer_count x (retrieved at.layer)
  pub ways : AreWays x at r.ways
  pub small : AllByRecursion (λ (w : Way). IsSmall w.how) r.ways

-- a row has the slot
abbrev pub RowHas : Row → Slot → Type 0
RowHas r (Temp t) = t < r.temps
RowHas r (Given k) = k < r.given
RowHas r (Answered k) = k < r.answered
RowHas r Depth = Unit {0}
RowHas r Awaits = Unit {0}

-- the row of a statement stands at its point
pub record HasRow (x : Exchange) (rows : List Row) (p : ℕ) (at : Place) : Type 0 where
  pub row : Row
  pub there : slice_get rows p ≡ Some row
  pub is : IsRowOf x at row

-- the rows of an exchange
pub record AreRows (x : Exchange) (rows : List Row) : Type 0 where
  pub each_point : length rows ≡ length x.points
  pub each : (p : ℕ) (at : Place) → StandsAt x p at → HasRow x rows p at

-- the points of the RETRIEVEs of an answer
pub record AreRetrieves (x : Exchange) (answer : ℕ) (points : List ℕ) : Type 0 where
  pub exact : (q : ℕ) → Contains points q ↔ IsRetrieveAt x q answer

-- the points of the RETRIEVEs of each signal
pub record AreAllRetrieves (x : Exchange) (retrieves : List (List ℕ)) : Type 0 where
  pub each_signal : length retrieves ≡ length x.signals
  pub exact : (answer : ℕ) (points : List ℕ) → slice_get retrieves answer ≡ Some points
      → AreRetrieves x answer points

-- the table of an exchange
pub record IsFlowTable (x : Exchange) (t : FlowTable) : Type 0 where
  pub rows : AreRows x t.rows
  pub retrieves : AreAllRetrieves x t.retrieves
