use Rattle.report_text.specs.Names.{placed}
use Rattle.report_text.specs.Report.{record_lines}
use Rattle.report_text.proofs.Cells.{record_left}
use Rattle.report_text.proofs.Lines.{Left}
use Rattle.report_text.proofs.stored.add_fields_of.Given as goal

abbrev pub invariant-loop-index : goal.invariant-loop-index
invariant-loop-index l = Left l.fn.text l.text (record_left l.exchange.blocks l.store (placed l.place) l.number l.index)
    (record_lines l.exchange.blocks l.store (placed l.place) l.number)
