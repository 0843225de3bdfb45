use Rattle.conflicts_program.proofs.Once.{answer_once}
use Rattle.conflicts_program.proofs.laws.answers_are_one.Goals as goal

pub returns : goal.returns
returns c = answer_once
