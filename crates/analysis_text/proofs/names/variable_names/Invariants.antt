use Rattle.std.proofs.Common.{◌≡◌, take}
use Rattle.std.specs.List.{flat_map}
use Rattle.analysis_text.specs.Names.{variables_of}
use Rattle.analysis_text.proofs.names.variable_names.Given as goal

abbrev pub invariant-loop-block : goal.invariant-loop-block
invariant-loop-block l = l.names ≡ flat_map variables_of (take l.block-index l.blocks)
