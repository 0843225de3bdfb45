use Rattle.answer_laws.proofs.Answering.{answer_once}
use Rattle.answer_laws.proofs.laws.answers_are_one.Goals as goal

pub returns : goal.returns
returns c = answer_once
