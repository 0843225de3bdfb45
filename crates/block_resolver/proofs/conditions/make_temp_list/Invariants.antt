use Rattle.std.proofs.Common.{[], ◌∷◌}
use Rattle.block_resolver.specs.Tables.{env_in}
use Rattle.resolved_block.specs.Meant.{temporary_of}
use Rattle.block_resolver.proofs.Lists.{Making}
use Rattle.block_resolver.proofs.conditions.make_temp_list.Given as goal

abbrev pub invariant-loop-name : goal.invariant-loop-name
invariant-loop-name l = Making (temporary_of (env_in l.names)) l.rest (l.fn.first ∷ []) l.name-index l.temps
