use Rattle.exchange_model.proofs.Numbers.{cell_number-below, cell_number-once, cell_numbered}
use Rattle.exchange_model.proofs.laws.cells_are_numbered.Goals as goal

pub returns-clause-below : goal.returns-clause-below
returns-clause-below c = cell_number-below

pub returns-clause-each : goal.returns-clause-each
returns-clause-each c = λ blocks n below. let found = cell_numbered blocks n below in (found.cell, found.is, found.same)

pub returns-clause-once : goal.returns-clause-once
returns-clause-once c = cell_number-once
