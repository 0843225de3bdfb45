use Rattle.block_change.proofs.Valid.{carried_valid}
use Rattle.block_change.proofs.laws.carried_states_are_valid.Goals as goal

pub returns : goal.returns
returns c = carried_valid
