-- The signal of a name.
use Rattle.std.specs.Prelude.{ℕ, List, Option, None, Some, slice_get, position}
use Rattle.std.specs.Str.{bytes_eq}
use Rattle.exchange_model.specs.declared.signal.SignalKind.{SignalKind}
use Rattle.exchange_model.specs.Kept.{signal_name}

-- the number of the first signal of this name
abbrev pub number_in : List SignalKind → List ℕ → Option ℕ
number_in signals n = position (λ s. bytes_eq (signal_name s) n) signals

abbrev pub kind_at : List SignalKind → Option ℕ → Option SignalKind
kind_at signals None = None
kind_at signals (Some i) = slice_get signals i

-- what the signal of this name is
abbrev pub kind_in : List SignalKind → List ℕ → Option SignalKind
kind_in signals n = kind_at signals (number_in signals n)
