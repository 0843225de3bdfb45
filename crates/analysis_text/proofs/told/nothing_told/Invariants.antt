use Rattle.analysis_text.proofs.Telling.{IsBlank}
use Rattle.analysis_text.proofs.told.nothing_told.Given as goal

abbrev pub invariant-loop-place : goal.invariant-loop-place
invariant-loop-place l = IsBlank l.pairs
