use Rattle.std.proofs.Common.{◌≡◌, take}
use Rattle.block_change.specs.Names.{field_names}
use Rattle.block_change.proofs.directory.field_names.Given as goal

abbrev pub invariant-loop-file : goal.invariant-loop-file
invariant-loop-file l = l.names ≡ field_names (take l.file-index l.files)
