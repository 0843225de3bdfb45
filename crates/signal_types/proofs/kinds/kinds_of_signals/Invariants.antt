use Rattle.signal_types.proofs.Numbering.{Listed}
use Rattle.signal_types.proofs.kinds.kinds_of_signals.Given as goal

abbrev pub invariant-loop-signal : goal.invariant-loop-signal
invariant-loop-signal l = Listed l.signals l.signal-index l.list
