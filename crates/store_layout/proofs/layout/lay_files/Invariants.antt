use Rattle.store_layout.proofs.Laying.{FilesLaid}
use Rattle.store_layout.proofs.layout.lay_files.Given as goal

abbrev pub invariant-loop-file : goal.invariant-loop-file
invariant-loop-file l = FilesLaid l.fn.rows l.rows l.first l.word l.file-index l.files
