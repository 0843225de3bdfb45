use Rattle.report_text.specs.Report.{variable_lines}
use Rattle.report_text.proofs.Cells.{variables_left}
use Rattle.report_text.proofs.Lines.{Left}
use Rattle.report_text.proofs.stored.add_variables.Given as goal

abbrev pub invariant-loop-number : goal.invariant-loop-number
invariant-loop-number l = Left l.fn.text l.text (variables_left l.exchange.blocks l.store l.number) (variable_lines l.exchange.blocks l.store)
