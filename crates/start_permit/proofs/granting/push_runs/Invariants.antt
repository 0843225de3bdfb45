use Rattle.std.proofs.Common.{take}
use Rattle.start_permit.specs.Granted.{OneOf}
use Rattle.start_permit.specs.Recorded.{Gains, InRow}
use Rattle.start_permit.proofs.granting.push_runs.Given as goal

abbrev pub invariant-loop-run : goal.invariant-loop-run
invariant-loop-run l = Gains (OneOf (InRow l.row l.place) (take l.run-index l.runs)) l.fn.spans l.spans
