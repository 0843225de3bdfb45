use Rattle.answer_existence.proofs.Carrying.{carried}
use Rattle.answer_existence.proofs.laws.states_are_carried.Goals as goal

pub returns : goal.returns
returns c = carried
