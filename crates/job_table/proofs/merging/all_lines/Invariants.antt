use Rattle.job_table.proofs.Turns.{Joined}
use Rattle.job_table.proofs.merging.all_lines.Given as goal

abbrev pub invariant-loop-period : goal.invariant-loop-period
invariant-loop-period l = Joined l.lines l.periods l.period-index l.all
