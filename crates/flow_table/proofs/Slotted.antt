-- Slots by the rows of a table.
use Rattle.std.proofs.Common.{◌≡◌, ℕ, ◌<◌, Some, slice_get, sym, ◌∙◌, subst}
use Rattle.std.proofs.lemmas.Option.{same_Some}
use Rattle.exchange_model.specs.declared.exchange.Exchange.{Exchange}
use Rattle.flow_points.specs.declared.fact.Slot.{Slot}
use Rattle.flow_points.specs.declared.fact.Slot.TheVariants.{Temp, Given, Answered, Depth, Awaits}
use Rattle.flow_points.specs.Places.{Place, StandsAt}
use Rattle.flow_points.specs.Slots.{IsSlotOf}
use Rattle.flow_table.specs.declared.row.FlowTable.{FlowTable}
use Rattle.flow_table.specs.declared.row.Row.{Row}
use Rattle.flow_table.specs.Rows.{IsFlowTable, IsRowOf, RowHas}

pub slot_of_row : (x : Exchange) (at : Place) (r : Row) (s : Slot) → IsRowOf x at r → RowHas r s → IsSlotOf x at s
slot_of_row x at r (Temp t) is has = subst (λ n. t < n) is.temps has
slot_of_row x at r (Given k) is has = subst (λ n. k < n) is.given has
slot_of_row x at r (Answered k) is has = subst (λ n. k < n) is.answered has
slot_of_row x at r Depth is has = tt
slot_of_row x at r Awaits is has = tt

pub row_of_slot : (x : Exchange) (at : Place) (r : Row) (s : Slot) → IsRowOf x at r → IsSlotOf x at s → RowHas r s
row_of_slot x at r (Temp t) is has = subst (λ n. t < n) (sym is.temps) has
row_of_slot x at r (Given k) is has = subst (λ n. k < n) (sym is.given) has
row_of_slot x at r (Answered k) is has = subst (λ n. k < n) (sym is.answered) has
row_of_slot x at r Depth is has = tt
row_of_slot x at r Awaits is has = tt

-- the row of a point is of what stands there
pub row_of : (x : Exchange) (t : FlowTable) (p : ℕ) (r : Row) (at : Place) → IsFlowTable x t → slice_get t.rows p ≡ Some r → StandsAt x p at → IsRowOf x at r
row_of x t p r at table there stands = (let h = table.rows.each p at stands in subst (IsRowOf x at) (same_Some h.row r (sym h.there ∙ there)) h.is)
