-- Slots that stand before a point have their places in the rows.
use Rattle.std.proofs.Common.{ℕ, ◌<◌, sym, subst, ap, ◌∙◌}
use Rattle.std.specs.Option.{option_map}
use Rattle.std.proofs.lemmas.Option.{slice_get-map}
use Rattle.exchange_model.specs.declared.exchange.Exchange.{Exchange}
use Rattle.flow_points.specs.declared.fact.Slot.{Slot}
use Rattle.flow_points.specs.declared.fact.Slot.TheVariants.{Temp, Given, Answered, Depth, Awaits}
use Rattle.flow_points.specs.declared.fact.Value.{Value}
use Rattle.flow_points.specs.Facts.{fact}
use Rattle.flow_points.specs.Places.{Place}
use Rattle.flow_points.specs.Slots.{IsSlotOf, HasSlot}
use Rattle.flow_table.specs.declared.row.Row.{Row}
use Rattle.flow_table.specs.declared.row.FlowTable.{FlowTable}
use Rattle.flow_table.specs.Rows.{IsRowOf, IsFlowTable}
use Rattle.fact_rows.specs.Known.{Fits, slots_of}
use Rattle.fact_rows.specs.Places.{HasPlace, counts_of}
use Rattle.fact_rows.specs.Values.{HasNumber}

placed : (x : Exchange) (at : Place) (row : Row) → IsRowOf x at row → (s : Slot) → IsSlotOf x at s → HasPlace (counts_of row) s
placed x at row is (Temp t) lt = subst (λ n. t < n) (sym is.temps) lt
placed x at row is (Given k) lt = subst (λ n. k < n) (sym is.given) lt
placed x at row is (Answered k) lt = subst (λ n. k < n) (sym is.answered) lt
placed x at row is Depth u = tt
placed x at row is Awaits u = tt

pub table_fits : (x : Exchange) (t : FlowTable) (e p : ℕ) (s : Slot) (v : Value) → IsFlowTable x t → HasSlot x p s
    → HasNumber s v → Fits (slots_of t) (fact e p s v)
table_fits x t e p s v table has number =
    let row = table.rows.each p has.place has.stands in
    record {
      counts = counts_of row.row;
      there = slice_get-map counts_of t.rows p ∙ ap (option_map counts_of) row.there;
      slot = placed x has.place row.row row.is s has.slot;
      number = number;
    }
