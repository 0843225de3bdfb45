use Rattle.std.proofs.Common.{length}
use Rattle.signal_file.proofs.Behind.{Reads}
use Rattle.signal_file.proofs.read.read_signals.Given as goal

abbrev pub invariant-loop-line : goal.invariant-loop-line
invariant-loop-line l = Reads l.known.exchange.now l.text l.rest l.before l.list

abbrev pub decreases-loop-line : goal.decreases-loop-line
decreases-loop-line l = length l.rest
