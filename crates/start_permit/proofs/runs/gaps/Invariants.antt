use Rattle.start_permit.proofs.Choosing.{GapsGo}
use Rattle.start_permit.proofs.runs.gaps.Given as goal

abbrev pub invariant-loop-number : goal.invariant-loop-number
invariant-loop-number l = GapsGo l.numbers l.number-index l.next l.runs
