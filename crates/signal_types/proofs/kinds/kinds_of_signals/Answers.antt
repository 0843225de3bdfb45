use Rattle.signal_types.proofs.Numbering.{kinds_begin, kinds_step}
use Rattle.signal_types.proofs.kinds.kinds_of_signals.Goals as goal

pub loop-signal-init : goal.loop-signal-init
loop-signal-init c = kinds_begin c.args.signals.now _ c.new-list.ensures

pub loop-signal-preserved : goal.loop-signal-preserved
loop-signal-preserved c = kinds_step _ _ _ _ _ c.loop-signal-test.true c.signal-item.is c.in_ok-add_kinds.ensures c.loop-signal.invariant
