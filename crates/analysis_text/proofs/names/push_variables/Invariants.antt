use Rattle.std.proofs.Common.{◌≡◌, ◌++◌, map, take}
use Rattle.exchange_model.specs.declared.block.Variable.{Variable}
use Rattle.analysis_text.specs.Names.{own_name}
use Rattle.analysis_text.proofs.names.push_variables.Given as goal

abbrev pub invariant-loop-variable : goal.invariant-loop-variable
invariant-loop-variable l = l.names ≡ l.fn.names ++ map (λ (v : Variable). own_name l.block.name v.name) (take l.variable-index l.block.variables)
