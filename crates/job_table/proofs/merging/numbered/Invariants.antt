use Rattle.job_table.proofs.Numbering.{Listed}
use Rattle.job_table.proofs.merging.numbered.Given as goal

abbrev pub invariant-loop-place : goal.invariant-loop-place
invariant-loop-place l = Listed l.places l.lines l.place l.list
