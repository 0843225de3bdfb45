use Rattle.std.proofs.Common.{length}
use Rattle.signal_trace.proofs.Behind.{Reads}
use Rattle.signal_trace.proofs.read.read_filter.Given as goal

abbrev pub invariant-loop-line : goal.invariant-loop-line
invariant-loop-line l = Reads l.known.names.now l.text l.rest l.number l.shows

abbrev pub decreases-loop-line : goal.decreases-loop-line
decreases-loop-line l = length l.rest
