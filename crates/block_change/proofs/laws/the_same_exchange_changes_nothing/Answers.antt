use Rattle.block_change.proofs.Unchanged.{carried_same, fits_itself, goes_over, parts_same}
use Rattle.block_change.proofs.laws.the_same_exchange_changes_nothing.Goals as goal

pub returns-clause-fits : goal.returns-clause-fits
returns-clause-fits c = fits_itself

pub returns-clause-state : goal.returns-clause-state
returns-clause-state c = carried_same

pub returns-clause-goes : goal.returns-clause-goes
returns-clause-goes c = goes_over

pub returns-clause-parts : goal.returns-clause-parts
returns-clause-parts c = parts_same
