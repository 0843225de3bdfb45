use Rattle.std.proofs.Common.{[], ◌∷◌}
use Rattle.block_resolver.specs.Tables.{env_in}
use Rattle.resolved_block.specs.Expressions.{typed_added, typed_multiplied}
use Rattle.block_resolver.proofs.Lists.{Making}
use Rattle.block_resolver.proofs.expressions.+expressions.Given as goal

abbrev pub invariant-make_terms-loop-added : goal.invariant-make_terms-loop-added
invariant-make_terms-loop-added l = Making (typed_added (env_in l.names)) l.rest (l.fn.first ∷ []) l.added-index l.terms

abbrev pub invariant-make_factors-loop-multiplied : goal.invariant-make_factors-loop-multiplied
invariant-make_factors-loop-multiplied l = Making (typed_multiplied (env_in l.names)) l.rest (l.fn.first ∷ []) l.multiplied-index l.factors
