use Rattle.std.proofs.Common.{[], ◌∷◌}
use Rattle.block_resolver.specs.Tables.{env_in}
use Rattle.resolved_block.specs.Expressions.{typed_conj}
use Rattle.block_resolver.proofs.Lists.{Making}
use Rattle.block_resolver.proofs.conditions.make_conj_list.Given as goal

abbrev pub invariant-loop-conj : goal.invariant-loop-conj
invariant-loop-conj l = Making (typed_conj (env_in l.names)) l.rest (l.fn.first ∷ []) l.conj-index l.any
