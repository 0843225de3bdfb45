use Rattle.std.proofs.Common.{drop, map}
use Rattle.analysis_text.proofs.Left.{Left}
use Rattle.additions_text.specs.Lines.{variable_line}
use Rattle.additions_text.proofs.lines.add_variables.Given as goal

abbrev pub invariant-loop-number : goal.invariant-loop-number
invariant-loop-number l = Left l.fn.text l.text (map (variable_line l.names l.entry) (drop l.number-index l.numbers))
    (map (variable_line l.names l.entry) l.numbers)
