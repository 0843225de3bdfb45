use Rattle.std.proofs.Common.{[]}
use Rattle.start_permit.specs.Listed.{block_places}
use Rattle.start_permit.proofs.Tabled.{Filled}
use Rattle.start_permit.proofs.table.places_of_fields.Given as goal

abbrev pub invariant-loop-block : goal.invariant-loop-block
invariant-loop-block l = Filled block_places [] l.places l.blocks l.block-index
