use Rattle.block_change.proofs.Once.{state_once}
use Rattle.block_change.proofs.laws.states_go_over_in_one_way.Goals as goal

pub returns : goal.returns
returns c = state_once
