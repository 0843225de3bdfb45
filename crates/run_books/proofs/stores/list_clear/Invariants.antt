use Rattle.run_books.proofs.Listed.{Cleared}
use Rattle.run_books.proofs.stores.list_clear.Given as goal

abbrev pub invariant-loop-variable : goal.invariant-loop-variable
invariant-loop-variable l = Cleared l.fn.stores l.stores l.first l.word l.variables l.variable-index
