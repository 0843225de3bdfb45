-- Slots by the rows of a table.
use Rattle.std.proofs.Common.{◌≡◌, ℕ, ◌<◌, ◌≤◌, ◌↔◌, Bool, false, IsTrue, List, [], ◌∷◌, length}
use Rattle.std.proofs.Common.{Some, slice_get, get_or, refl, sym, ap, arith}
use Rattle.std.proofs.lemmas.Bool.{false≢true}
use Rattle.std.proofs.lemmas.Option.{slice_get_within, slice_get-get_or}
use Rattle.exchange_model.specs.declared.exchange.Exchange.{Exchange}
use Rattle.flow_points.specs.declared.fact.Slot.{Slot}
use Rattle.flow_points.specs.Places.{Place, StandsAt}
use Rattle.flow_points.specs.Slots.{HasSlot}
use Rattle.flow_table.specs.declared.row.FlowTable.{FlowTable}
use Rattle.flow_table.specs.declared.row.Row.{Row}
use Rattle.flow_table.specs.Rows.{IsFlowTable, RowHas}
use Rattle.flow_table.proofs.Slotted.{row_of, row_of_slot, slot_of_row}
use Rattle.certificate_faults.specs.Strange.{AreListed}

-- a statement stands at each point
stands_there : (x : Exchange) (p : ℕ) → AreListed x → p < length x.points → (at : Place) × StandsAt x p at
stands_there x p listed inside = at listed.places refl
  where
    at : (places : List Place) → places ≡ listed.places → (at : Place) × StandsAt x p at
    at [] same = absurd (let none : length listed.places ≡ 0 = sym (ap length same) in omega (arith, none, listed.all.each_point, inside))
    at (q ∷ rest) same =
        let place = get_or listed.places p q in
        (place, listed.all.stands p place (slice_get-get_or listed.places p q (omega (arith, listed.all.each_point, inside))))

pub row_told : (x : Exchange) (t : FlowTable) (p : ℕ) (s : Slot) (r : Row) (b : Bool) → IsFlowTable x t → AreListed x
    → slice_get t.rows p ≡ Some r → (IsTrue b ↔ RowHas r s) → IsTrue b ↔ HasSlot x p s
row_told x t p s r b table listed there tells =
    let inside : p < length x.points = omega (arith, slice_get_within t.rows p r there, table.rows.each_point) in
    let place = stands_there x p listed inside in (
      (λ yes_it. record { place = place.0; stands = place.1; slot = slot_of_row x place.0 r s (row_of x t p r place.0 table there place.1) (tells.0 yes_it) }),
      (λ has. tells.1 (row_of_slot x has.place r s (row_of x t p r has.place table there has.stands) has.slot)),
    )

pub no_row : (x : Exchange) (t : FlowTable) (p : ℕ) (s : Slot) → IsFlowTable x t → AreListed x → length t.rows ≤ p → IsTrue false ↔ HasSlot x p s
no_row x t p s table listed past = (
  (λ e. absurd (false≢true e)),
  (λ has. absurd (omega (
    arith,
    slice_get_within listed.places p has.place (listed.all.listed p has.place has.stands),
    listed.all.each_point,
    table.rows.each_point,
    past,
  ))),
)
