use Rattle.start_permit.specs.Listed.{file_places}
use Rattle.start_permit.proofs.Tabled.{Filled}
use Rattle.start_permit.proofs.table.push_files.Given as goal

abbrev pub invariant-loop-file : goal.invariant-loop-file
invariant-loop-file l = Filled file_places l.fn.places l.places l.files l.file-index
