use Rattle.std.proofs.Common.{◌≡◌}
use Rattle.job_types.specs.Waiting.{waiting_count}
use Rattle.block_change.specs.Renamed.{AreAtLevels, waiting_with}
use Rattle.block_change.proofs.Moving.{behind}
use Rattle.block_change.proofs.books.carried_waiting.Given as goal

abbrev pub invariant-jobs : goal.invariant-jobs
invariant-jobs l = record {
  levels : AreAtLevels l.left.waiting;
  all : behind l.carried.waiting (waiting_with l.entries l.left.waiting) ≡ waiting_with l.entries l.fn.buffers.waiting;
}

abbrev pub decreases-jobs : goal.decreases-jobs
decreases-jobs l = waiting_count l.left.waiting
