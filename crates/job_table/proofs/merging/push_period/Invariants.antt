use Rattle.job_table.proofs.Turns.{Turned}
use Rattle.job_table.proofs.merging.push_period.Given as goal

abbrev pub invariant-loop-turn : goal.invariant-loop-turn
invariant-loop-turn l = Turned l.period l.fn.all l.all l.turn
