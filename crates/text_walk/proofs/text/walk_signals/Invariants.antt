use Rattle.std.proofs.Common.{[]}
use Rattle.text_events.specs.Texts.{signal_walk}
use Rattle.text_events.proofs.Steps.{Turns}
use Rattle.text_walk.proofs.text.walk_signals.Given as goal

abbrev pub invariant-loop-s : goal.invariant-loop-s
invariant-loop-s l = Turns signal_walk l.signals l.s-index l.out []
