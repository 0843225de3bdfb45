use Rattle.std.proofs.Common.{◌-◌}
use Rattle.job_types.specs.Own.{budget}
use Rattle.source_interpreter.proofs.Ending.{IsLater}
use Rattle.source_interpreter.proofs.run.Run.finish.Given as goal

abbrev pub invariant-loop-fault : goal.invariant-loop-fault
invariant-loop-fault l = IsLater l.fn.self l.fn.store l.self l.store

abbrev pub decreases-loop-fault : goal.decreases-loop-fault
decreases-loop-fault l = budget - l.self.own.count
