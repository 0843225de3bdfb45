use Rattle.std.proofs.Common.{◌≡◌, ◌++◌, map, take}
use Rattle.exchange_model.specs.declared.block.File.{File}
use Rattle.analysis_text.specs.Names.{own_name}
use Rattle.analysis_text.proofs.names.push_files.Given as goal

abbrev pub invariant-loop-file : goal.invariant-loop-file
invariant-loop-file l = l.names ≡ l.fn.names ++ map (λ (f : File). own_name l.block.name f.name) (take l.file-index l.block.files)
