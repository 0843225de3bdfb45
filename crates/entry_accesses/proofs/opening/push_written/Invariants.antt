use Rattle.entry_accesses.proofs.Opened.{WrittenGo}
use Rattle.entry_accesses.proofs.opening.push_written.Given as goal

abbrev pub invariant-loop-number : goal.invariant-loop-number
invariant-loop-number l = WrittenGo l.first l.end l.number l.fn.all l.all
