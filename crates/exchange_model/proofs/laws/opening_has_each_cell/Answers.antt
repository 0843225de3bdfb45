use Rattle.exchange_model.proofs.Openings.{length-opening_store, opening_store-variable}
use Rattle.exchange_model.proofs.Openings.{opening_store-field, opening_store-mark}
use Rattle.exchange_model.proofs.laws.opening_has_each_cell.Goals as goal

pub returns-clause-each : goal.returns-clause-each
returns-clause-each c = length-opening_store

pub returns-clause-variable : goal.returns-clause-variable
returns-clause-variable c = opening_store-variable

pub returns-clause-field : goal.returns-clause-field
returns-clause-field c = opening_store-field

pub returns-clause-mark : goal.returns-clause-mark
returns-clause-mark c = opening_store-mark
