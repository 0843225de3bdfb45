use Rattle.std.proofs.Common.{◌≡◌, take}
use Rattle.std.specs.List.{flat_map}
use Rattle.analysis_text.specs.Names.{fields_of}
use Rattle.analysis_text.proofs.names.field_names.Given as goal

abbrev pub invariant-loop-block : goal.invariant-loop-block
invariant-loop-block l = l.names ≡ flat_map fields_of (take l.block-index l.blocks)
