use Rattle.resolved_block.specs.Blocks.{variable_in}
use Rattle.block_resolver.proofs.Picked.{Picked}
use Rattle.block_resolver.proofs.data.variables_of.Given as goal

abbrev pub invariant-loop-decl : goal.invariant-loop-decl
invariant-loop-decl l = Picked variable_in l.decls l.decl-index l.list
