use Rattle.std.proofs.Common.{◌≡◌, take}
use Rattle.exchange_model.specs.Kept.{variable_names}
use Rattle.block_change.proofs.directory.variable_names.Given as goal

abbrev pub invariant-loop-variable : goal.invariant-loop-variable
invariant-loop-variable l = l.names ≡ variable_names (take l.variable-index l.variables)
