use Rattle.entry_faults.specs.Marks.{weight}
use Rattle.entry_faults.proofs.Searching.{Searching}
use Rattle.entry_faults.proofs.search.search_from.Given as goal

abbrev pub invariant-loop-frame : goal.invariant-loop-frame
invariant-loop-frame l = Searching l.table l.reached l.start l.fn.marks l.marks l.stack.items

abbrev pub decreases-loop-frame : goal.decreases-loop-frame
decreases-loop-frame l = weight l.marks
