use Rattle.conflicts_meaning.specs.Lines.{point_text}
use Rattle.conflicts_text.proofs.Sizing.{Leaves}
use Rattle.conflicts_text.proofs.lines.points_outgrow.Given as goal

abbrev pub invariant-loop-place : goal.invariant-loop-place
invariant-loop-place l = Leaves (point_text l.exchange l.entry) l.rows l.fn.room l.place l.left
