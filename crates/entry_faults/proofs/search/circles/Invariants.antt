use Rattle.entry_faults.proofs.Searching.{CirclesGo}
use Rattle.entry_faults.proofs.search.circles.Given as goal

abbrev pub invariant-loop-passed : goal.invariant-loop-passed
invariant-loop-passed l = CirclesGo l.table l.reached l.passed l.marks
