use Rattle.resolved_block.specs.Blocks.{temporary_in}
use Rattle.block_resolver.proofs.Picked.{Picked}
use Rattle.block_resolver.proofs.data.temporaries_of.Given as goal

abbrev pub invariant-loop-decl : goal.invariant-loop-decl
invariant-loop-decl l = Picked temporary_in l.decls l.decl-index l.list
