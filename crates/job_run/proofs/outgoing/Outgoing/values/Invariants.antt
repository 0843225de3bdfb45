use Rattle.std.proofs.Common.{◌≡◌, take}
use Rattle.job_run.proofs.outgoing.Outgoing.values.Given as goal

abbrev pub invariant-loop-number : goal.invariant-loop-number
invariant-loop-number l = l.values ≡ take l.number-index l.number-items
