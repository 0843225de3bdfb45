use Rattle.std.proofs.Common.{◌≡◌, map, take}
use Rattle.exchange_model.specs.Kept.{signal_name}
use Rattle.signal_file.proofs.directory.signal_names.Given as goal

abbrev pub invariant-loop-signal : goal.invariant-loop-signal
invariant-loop-signal l = l.names ≡ map signal_name (take l.signal-index l.exchange.signals)
