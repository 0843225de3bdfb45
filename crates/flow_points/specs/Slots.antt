-- The slots before a point: one for each temporary of the block, as many entry values as the
-- largest signal has that the block receives, at a RETRIEVE the values of its answer, and how many
-- callers wait and what the last of them awaits.
use Rattle.std.specs.Prelude.{ℕ, ◌<◌, length, map, Option, slice_get}
use Rattle.std.specs.Option.{option_map_or}
use Rattle.exchange_model.specs.declared.exchange.Exchange.{Exchange}
use Rattle.exchange_model.specs.declared.block.Block.{Block}
use Rattle.exchange_model.specs.declared.block.Enter.{Enter as Row}
use Rattle.exchange_model.specs.Fits.{retrieved}
use Rattle.exchange_model.specs.Inside.{most}
use Rattle.source_meaning.specs.Changes.{value_count}
use Rattle.flow_points.specs.declared.fact.Slot.{Slot}
use Rattle.flow_points.specs.declared.fact.Slot.TheVariants.{Temp, Given, Answered, Depth, Awaits}
use Rattle.flow_points.specs.Places.{Place, StandsAt}

-- how many temporaries and how many entry values a block has
abbrev pub temp_count : Exchange → ℕ → ℕ
temp_count x b = option_map_or (λ (k : Block). length k.temporaries) (slice_get x.blocks b) 0

abbrev pub given_count : Exchange → ℕ → ℕ
given_count x b = option_map_or (λ (k : Block). most
    (map (λ (r : Row). value_count x r.signal) k.enters)) (slice_get x.blocks b) 0

-- how many values the answer of a RETRIEVE has, and 0 of any other statement
abbrev pub answer_count : Exchange → Option ℕ → ℕ
answer_count x answer = option_map_or (value_count x) answer 0

abbrev pub IsSlotOf : Exchange → Place → Slot → Type 0
IsSlotOf x p (Temp t) = t < temp_count x p.block
IsSlotOf x p (Given k) = k < given_count x p.block
IsSlotOf x p (Answered k) = k < answer_count x (retrieved p.layer)
IsSlotOf x p Depth = Unit {0}
IsSlotOf x p Awaits = Unit {0}

-- the slot is there before the point
pub record HasSlot (x : Exchange) (point : ℕ) (s : Slot) : Type 0 where
  pub place : Place
  pub stands : StandsAt x point place
  pub slot : IsSlotOf x place s
