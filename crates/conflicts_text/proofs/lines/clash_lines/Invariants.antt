use Rattle.conflicts_meaning.specs.Lines.{clash_text}
use Rattle.conflicts_text.proofs.Sizing.{Written}
use Rattle.conflicts_text.proofs.lines.clash_lines.Given as goal

abbrev pub invariant-loop-place : goal.invariant-loop-place
invariant-loop-place l = Written (clash_text l.pair) l.rows l.room l.place l.text
