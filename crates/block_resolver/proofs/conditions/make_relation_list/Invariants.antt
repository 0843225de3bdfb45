use Rattle.std.proofs.Common.{[], ◌∷◌}
use Rattle.block_resolver.specs.Tables.{env_in}
use Rattle.resolved_block.specs.Expressions.{typed_relation}
use Rattle.block_resolver.proofs.Lists.{Making}
use Rattle.block_resolver.proofs.conditions.make_relation_list.Given as goal

abbrev pub invariant-loop-relation : goal.invariant-loop-relation
invariant-loop-relation l = Making (typed_relation (env_in l.names)) l.rest (l.fn.first ∷ []) l.relation-index l.all
