-- What a check tells: nothing, or a fault.
use Rattle.std.specs.Prelude.{ℕ, ◌^◌, nat_lt, Bool, Option, Some, None, Result, Ok, Err}
use Rattle.std.specs.Prelude.{if◌then◌else◌}
use Rattle.job_types.specs.Truth.{one_if}
use Rattle.job_types.specs.declared.fault.Fault.{Fault}
use Rattle.job_types.specs.declared.fault.Fault.TheVariants as fault

-- done, unless there is a fault
abbrev pub unless : Option Fault → Result (Unit {0}) Fault
unless None = Ok tt
unless (Some f) = Err f

-- done where the value fits so many bits
abbrev pub range_check : ℕ → ℕ → Result (Unit {0}) Fault
range_check v width = (if nat_lt v (2 ^ width) then Ok tt else Err fault.Range)

-- a test as a number, or the fault
abbrev pub bit_of : Result Bool Fault → Result ℕ Fault
bit_of (Ok b) = Ok (one_if b)
bit_of (Err f) = Err f
