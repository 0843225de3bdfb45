use Rattle.std.specs.List.{concat}
use Rattle.analysis_text.specs.Bodies.{AreBodies}
use Rattle.analysis_text.specs.Lines.{entries_text}
use Rattle.analysis_text.proofs.Left.{LeftText}
use Rattle.analysis_text.proofs.Listing.{told_from}
use Rattle.analysis_text.proofs.entries.add_entries.Given as goal

abbrev pub invariant-loop-number : goal.invariant-loop-number
invariant-loop-number l =
    LeftText (concat l.fn.parts) (concat l.parts) (told_from l.exchange l.names l.summaries l.number)
    (entries_text l.exchange l.names l.summaries) × AreBodies l.names l.summaries l.number l.parts l.places
