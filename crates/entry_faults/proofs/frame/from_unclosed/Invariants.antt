use Rattle.entry_faults.proofs.Passing.{PassesGo}
use Rattle.entry_faults.proofs.frame.from_unclosed.Given as goal

abbrev pub invariant-loop-i : goal.invariant-loop-i
invariant-loop-i l = PassesGo l.reached l.marks l.ends l.i
