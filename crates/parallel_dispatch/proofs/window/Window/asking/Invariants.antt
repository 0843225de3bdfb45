use Rattle.std.proofs.Common.{◌≡◌}
use Rattle.parallel_dispatch.proofs.window.Window.asking.Given as goal

abbrev pub invariant-loop-job : goal.invariant-loop-job
invariant-loop-job g l = l.pairs ≡ l.initial.pairs
