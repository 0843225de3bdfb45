use Rattle.report_text.proofs.Cells.{FilesLeft}
use Rattle.report_text.proofs.stored.add_files.Given as goal

abbrev pub invariant-loop-file : goal.invariant-loop-file
invariant-loop-file l = FilesLeft l.exchange.blocks l.store l.fn.text l.text l.block l.fn.first l.first l.file-index l.files
