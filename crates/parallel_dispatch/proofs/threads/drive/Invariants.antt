use Rattle.std.proofs.Common.{◌≡◌}
use Rattle.parallel_dispatch.specs.Moves.{to_do}
use Rattle.parallel_dispatch.proofs.threads.drive.Given as goal

abbrev pub invariant-jobs : goal.invariant-jobs
invariant-jobs g l = l.pairs ≡ g.B.Course.kept

abbrev pub decreases-jobs : goal.decreases-jobs
decreases-jobs g l = to_do l.dispatcher.books
