-- Numbers that leave room for one more, and lists of names that are short.
use Rattle.std.specs.Prelude.{ℕ, ◌+◌, ◌<◌, ◌≤◌, ◌^◌, length}
use Rattle.plex_limits.specs.declared.limits.TheConstants.{MOST_VALUES}
use Rattle.flow_points.specs.declared.fact.Slot.{Slot}
use Rattle.flow_points.specs.declared.fact.Slot.TheVariants.{Given, Answered}
use Rattle.flow_points.specs.declared.flow.Passing.{Passing}
use Rattle.flow_points.specs.declared.flow.Passing.TheVariants.{Takes, Retrieves, Calls}
use Rattle.flow_table.specs.declared.passing.Origin.{Origin}
use Rattle.flow_table.specs.declared.passing.Origin.TheVariants as origin

-- a signal has few values, and the number of an answer is below the greatest number
abbrev pub IsSmall : Passing → Type 0
IsSmall (Takes temps) = length temps ≤ MOST_VALUES
IsSmall (Retrieves temps) = length temps ≤ MOST_VALUES
IsSmall (Calls values answer) = answer + 1 < 2 ^ 32
IsSmall _ = Unit {0}

-- the slot of an entry value, or of a value of the answer
abbrev pub slot_at : Origin → ℕ → Slot
slot_at origin.Given k = Given k
slot_at origin.Answered k = Answered k
