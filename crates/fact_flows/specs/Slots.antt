-- The slots before a point as a list.
use Rattle.std.specs.Prelude.{◌↔◌, ℕ, List, [], ◌∷◌, ◌++◌, map}
use Rattle.std.specs.List.{Contains, range_with_len}
use Rattle.exchange_model.specs.declared.exchange.Exchange.{Exchange}
use Rattle.flow_points.specs.declared.fact.Slot.{Slot}
use Rattle.flow_points.specs.declared.fact.Slot.TheVariants as slot
use Rattle.flow_points.specs.Slots.{HasSlot}
use Rattle.flow_table.specs.declared.row.Row.{Row}
use Rattle.fact_flows.specs.declared.slots.Numbered.{Numbered}
use Rattle.fact_flows.specs.declared.slots.Numbered.TheVariants.{Temp, Given, Answered}

-- exactly the slots that are there before the point
pub record AreSlots (x : Exchange) (p : ℕ) (slots : List Slot) : Type 0 where
  pub exact : (s : Slot) → Contains slots s ↔ HasSlot x p s

abbrev pub numbered_slot : Numbered → ℕ → Slot
numbered_slot Temp n = slot.Temp n
numbered_slot Given n = slot.Given n
numbered_slot Answered n = slot.Answered n

-- those that a row tells
abbrev pub row_slots : Row → List Slot
row_slots r =
    map (numbered_slot Temp) (range_with_len 0 r.temps)
    ++ (map (numbered_slot Given) (range_with_len 0 r.given)
    ++ (map (numbered_slot Answered) (range_with_len 0 r.answered)
    ++ (slot.Depth ∷ slot.Awaits ∷ [])))
