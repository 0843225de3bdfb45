use Rattle.std.proofs.Common.{◌≡◌, take}
use Rattle.exchange_model.specs.Names.{names_of_signals}
use Rattle.block_change.proofs.directory.signal_names.Given as goal

abbrev pub invariant-loop-signal : goal.invariant-loop-signal
invariant-loop-signal l = l.names ≡ names_of_signals (take l.signal-index l.signals)
