use Rattle.std.proofs.Common.{length}
use Rattle.parallel_dispatch.specs.Moves.{IsLeft}
use Rattle.parallel_dispatch.proofs.moves.drain.Given as goal

abbrev pub invariant-jobs : goal.invariant-jobs
invariant-jobs g l = IsLeft g.B.Naming.store l.root l.window.loans

abbrev pub decreases-jobs : goal.decreases-jobs
decreases-jobs g l = length l.window.loans
