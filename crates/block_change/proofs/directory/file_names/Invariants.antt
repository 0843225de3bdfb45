use Rattle.std.proofs.Common.{◌≡◌, take}
use Rattle.block_change.specs.Names.{file_names}
use Rattle.block_change.proofs.directory.file_names.Given as goal

abbrev pub invariant-loop-file : goal.invariant-loop-file
invariant-loop-file l = l.names ≡ file_names (take l.file-index l.files)
