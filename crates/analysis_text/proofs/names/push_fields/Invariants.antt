use Rattle.std.proofs.Common.{◌≡◌, ◌++◌, take}
use Rattle.std.specs.List.{flat_map}
use Rattle.analysis_text.specs.Names.{fields_of_file}
use Rattle.analysis_text.proofs.names.push_fields.Given as goal

abbrev pub invariant-loop-file : goal.invariant-loop-file
invariant-loop-file l = l.names ≡ l.fn.names ++ flat_map (fields_of_file l.block.name) (take l.file-index l.block.files)
