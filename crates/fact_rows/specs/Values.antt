-- The number of a value in its plane. In the plane of AWAITS a number is itself; in any other one
-- the values that a job started with come first, then the small numbers, and last any number.
use Rattle.std.specs.Prelude.{ℕ, ◌+◌, ◌-◌, ◌<◌, nat_lt, Bool, true, false, if◌then◌else◌}
use Rattle.plex_limits.specs.declared.limits.TheConstants.{MOST_VALUES}
use Rattle.flow_points.specs.declared.limits.TheConstants.{SMALL_NUMBERS}
use Rattle.flow_points.specs.declared.fact.Slot.{Slot}
use Rattle.flow_points.specs.declared.fact.Slot.TheVariants.{Temp, Given, Answered, Depth, Awaits}
use Rattle.flow_points.specs.declared.fact.Value.{Value}
use Rattle.flow_points.specs.declared.fact.Value.TheVariants.{Arg, Const, Any}
use Rattle.fact_rows.specs.declared.place.Spot.{Spot}
use Rattle.fact_rows.specs.declared.place.Spot.TheVariants.{Plane, Awaited}
use Rattle.fact_rows.specs.declared.value.TheConstants.{ANY_NUMBER, AWAITED_NUMBERS}

abbrev pub is_awaits : Slot → Bool
is_awaits (Temp t) = false
is_awaits (Given k) = false
is_awaits (Answered k) = false
is_awaits Depth = false
is_awaits Awaits = true

-- the value has a number in the plane of AWAITS, or in any other one
abbrev pub IsAwaited : Value → Type 0
IsAwaited (Arg k) = ⊥
IsAwaited (Const c) = c < AWAITED_NUMBERS
IsAwaited Any = ⊥

abbrev pub IsNumbered : Value → Type 0
IsNumbered (Arg k) = k < MOST_VALUES
IsNumbered (Const c) = c < SMALL_NUMBERS
IsNumbered Any = Unit {0}

-- the value has a number in the plane of the slot
abbrev pub HasNumber : Slot → Value → Type 0
HasNumber (Temp t) v = IsNumbered v
HasNumber (Given k) v = IsNumbered v
HasNumber (Answered k) v = IsNumbered v
HasNumber Depth v = IsNumbered v
HasNumber Awaits v = IsAwaited v

abbrev pub awaited_number : Value → ℕ
awaited_number (Arg k) = 0
awaited_number (Const c) = c
awaited_number Any = 0

abbrev pub value_number : Value → ℕ
value_number (Arg k) = k
value_number (Const c) = MOST_VALUES + c
value_number Any = ANY_NUMBER

-- the number of a value that has one
abbrev pub number_in : Slot → Value → ℕ
number_in s v = (if is_awaits s then awaited_number v else value_number v)

abbrev pub numbered_value : ℕ → Value
numbered_value n = (if nat_lt n MOST_VALUES then Arg n
    else (if nat_lt n ANY_NUMBER then Const (n - MOST_VALUES) else Any))

-- the value of a number
abbrev pub value_in : Slot → ℕ → Value
value_in s n = (if is_awaits s then Const n else numbered_value n)

-- how many numbers the plane of a slot has
abbrev pub numbers_of : Slot → ℕ
numbers_of s = (if is_awaits s then AWAITED_NUMBERS else ANY_NUMBER + 1)

-- how many numbers the plane at a spot may have
abbrev pub room_at : Spot → ℕ
room_at (Plane i) = ANY_NUMBER + 1
room_at (Awaited p) = AWAITED_NUMBERS
