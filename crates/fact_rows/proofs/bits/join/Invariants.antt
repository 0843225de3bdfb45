use Rattle.fact_rows.proofs.Joining.{JoinsWords}
use Rattle.fact_rows.proofs.bits.join.Given as goal

abbrev pub invariant-loop-place : goal.invariant-loop-place
invariant-loop-place l = JoinsWords l.fn.words l.others l.place l.grown l.words
