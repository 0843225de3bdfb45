use Rattle.std.specs.Prelude.{length}
use Rattle.run_books.proofs.Arriving.{Arriving}
use Rattle.run_books.proofs.arrivals.let_arrive.Given as goal

abbrev pub invariant-lines : goal.invariant-lines
invariant-lines l = record { arriving : Arriving l.exchange l.fn.books l.books }

abbrev pub decreases-lines : goal.decreases-lines
decreases-lines l = length l.books.state.lines
