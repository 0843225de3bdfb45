use Rattle.report_text.specs.Report.{field_lines}
use Rattle.report_text.proofs.Cells.{fields_left}
use Rattle.report_text.proofs.Lines.{Left}
use Rattle.report_text.proofs.stored.add_fields.Given as goal

abbrev pub invariant-loop-number : goal.invariant-loop-number
invariant-loop-number l = Left l.fn.text l.text (fields_left l.exchange.blocks l.store l.number) (field_lines l.exchange.blocks l.store)
