use Rattle.report_text.specs.Report.{block_lines}
use Rattle.report_text.proofs.Cells.{block_left}
use Rattle.report_text.proofs.Lines.{Left}
use Rattle.report_text.proofs.stored.add_block.Given as goal

abbrev pub invariant-loop-place : goal.invariant-loop-place
invariant-loop-place l = Left l.fn.text l.text (block_left l.store l.first l.block l.place) (block_lines l.store l.first l.block)
