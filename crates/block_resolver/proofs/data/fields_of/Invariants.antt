use Rattle.std.proofs.Common.{◌≡◌, map, take}
use Rattle.resolved_block.specs.Blocks.{field_of}
use Rattle.block_resolver.proofs.data.fields_of.Given as goal

abbrev pub invariant-loop-field : goal.invariant-loop-field
invariant-loop-field l = l.list ≡ map field_of (take l.field-index l.fields)
