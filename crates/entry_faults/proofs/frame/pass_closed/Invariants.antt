use Rattle.entry_faults.proofs.Passing.{MovesGo}
use Rattle.entry_faults.proofs.frame.pass_closed.Given as goal

abbrev pub invariant-loop-i : goal.invariant-loop-i
invariant-loop-i l = MovesGo l.table l.reached l.marks l.frame l.i l.ends
