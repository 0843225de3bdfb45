use Rattle.conflicts_meaning.specs.Lines.{point_text}
use Rattle.conflicts_text.proofs.Sizing.{Written}
use Rattle.conflicts_text.proofs.lines.point_lines.Given as goal

abbrev pub invariant-loop-place : goal.invariant-loop-place
invariant-loop-place l = Written (point_text l.exchange l.entry) l.rows l.room l.place l.text
