use Rattle.answer_existence.proofs.Answering.{answer}
use Rattle.answer_existence.proofs.laws.an_answer_comes.Goals as goal

pub returns : goal.returns
returns c = answer
