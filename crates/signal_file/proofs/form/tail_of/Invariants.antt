use Rattle.std.proofs.Common.{◌+◌, ◌≤◌, length}
use Rattle.text_lines.specs.Words.{words}
use Rattle.signal_file.proofs.Tails.{Goes}
use Rattle.signal_file.proofs.form.tail_of.Given as goal

abbrev pub invariant-loop-word : goal.invariant-loop-word
invariant-loop-word l = record { goes : Goes (words l.line) (words l.rest) l.values l.count; few : l.count + length l.rest ≤ length l.line }

abbrev pub decreases-loop-word : goal.decreases-loop-word
decreases-loop-word l = length l.rest
