use Rattle.std.proofs.Common.{◌≡◌, ◌++◌, take}
use Rattle.exchange_model.specs.Opening.{inits}
use Rattle.store_layout.proofs.store.open_variables.Given as goal

abbrev pub invariant-loop-variable : goal.invariant-loop-variable
invariant-loop-variable l = l.store ≡ l.fn.store ++ inits (take l.variable-index l.variables)
