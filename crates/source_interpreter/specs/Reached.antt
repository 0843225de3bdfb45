-- The block to which a signal goes, or the fault that comes in its place.
use Rattle.std.specs.Prelude.{ℕ, Option, Some, None, Result, Ok, Err}
use Rattle.job_types.specs.declared.fault.Fault.{Fault}
use Rattle.job_types.specs.declared.fault.Fault.TheVariants as fault
use Rattle.exchange_model.specs.declared.exchange.Exchange.{Exchange}
use Rattle.exchange_model.specs.declared.stmt.Receiver.{Receiver}
use Rattle.exchange_model.specs.declared.stmt.Receiver.TheVariants as receiver
use Rattle.source_meaning.specs.Value.{Sight, answer_of, holder_value}
use Rattle.source_meaning.specs.Config.{receiver_of}

-- the block that was found, or POINTER
abbrev pub or_pointer : Option ℕ → Result ℕ Fault
or_pointer None = Err fault.Pointer
or_pointer (Some b) = Ok b

-- the block that a reference names
abbrev pub named_by : Exchange → ℕ → Result ℕ Fault → Result ℕ Fault
named_by x signal (Ok v) = or_pointer (receiver_of x signal v)
named_by x signal (Err f) = Err f

-- the receiver of a signal; an outside signal has none, and is sent as if to block 0
abbrev pub reached : Exchange → ℕ → Option Receiver → Sight → Result ℕ Fault
reached x signal None s = Ok 0
reached x signal (Some (receiver.Block b)) s = Ok b
reached x signal (Some (receiver.Held h)) s = named_by x signal (answer_of (holder_value h s))
