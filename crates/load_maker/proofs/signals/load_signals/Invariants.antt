use Rattle.std.proofs.Common.{[]}
use Rattle.load_maker.specs.Signals.{call_line}
use Rattle.load_maker.proofs.Rounds.{Grown}
use Rattle.load_maker.proofs.signals.load_signals.Given as goal

abbrev pub invariant-loop-call : goal.invariant-loop-call
invariant-loop-call l = Grown call_line [] 0 l.call l.text
