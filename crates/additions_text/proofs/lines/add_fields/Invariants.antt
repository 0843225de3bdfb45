use Rattle.std.proofs.Common.{drop, map}
use Rattle.analysis_text.proofs.Left.{Left}
use Rattle.additions_text.specs.Lines.{field_line}
use Rattle.additions_text.proofs.lines.add_fields.Given as goal

abbrev pub invariant-loop-number : goal.invariant-loop-number
invariant-loop-number l = Left l.fn.text l.text (map (field_line l.names l.entry) (drop l.number-index l.numbers)) (map (field_line l.names l.entry) l.numbers)
