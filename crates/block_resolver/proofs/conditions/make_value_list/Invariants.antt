use Rattle.std.proofs.Common.{[], ◌∷◌}
use Rattle.block_resolver.specs.Tables.{env_in}
use Rattle.resolved_block.specs.Expressions.{typed_expr}
use Rattle.block_resolver.proofs.Lists.{Making}
use Rattle.block_resolver.proofs.conditions.make_value_list.Given as goal

abbrev pub invariant-loop-e : goal.invariant-loop-e
invariant-loop-e l = Making (typed_expr (env_in l.names)) l.rest (l.fn.first ∷ []) l.e-index l.values
