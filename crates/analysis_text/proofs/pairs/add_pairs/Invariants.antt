use Rattle.analysis_text.specs.Pairs.{GainsText, InTurn, IsTextOfFirst}
use Rattle.analysis_text.specs.Telling.{AreTold}
use Rattle.analysis_text.proofs.pairs.add_pairs.Given as goal

abbrev pub invariant-loop-number : goal.invariant-loop-number
invariant-loop-number l = GainsText (InTurn (IsTextOfFirst l.names l.summaries) l.number) l.fn.text l.text × AreTold l.summaries l.told.pairs.items
