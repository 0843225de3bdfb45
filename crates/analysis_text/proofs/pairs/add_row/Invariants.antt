use Rattle.analysis_text.specs.Telling.{AreTold}
use Rattle.analysis_text.proofs.Turns.{RowGoes}
use Rattle.analysis_text.proofs.pairs.add_row.Given as goal

abbrev pub invariant-loop-other : goal.invariant-loop-other
invariant-loop-other l = RowGoes l.names l.summaries l.number l.other l.fn.text l.text × AreTold l.summaries l.told.pairs.items
