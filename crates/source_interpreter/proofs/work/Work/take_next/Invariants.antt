use Rattle.std.proofs.Common.{◌≡◌, length}
use Rattle.source_meaning.specs.Config.{next_counted}
use Rattle.source_interpreter.proofs.work.Work.take_next.Given as goal

abbrev pub invariant-loop-next : goal.invariant-loop-next
invariant-loop-next l = next_counted l.self ≡ next_counted l.fn.self

abbrev pub decreases-loop-next : goal.decreases-loop-next
decreases-loop-next l = length l.self
