use Rattle.merge_program.proofs.Once.{answer}
use Rattle.merge_program.proofs.laws.an_answer_comes.Goals as goal

pub returns : goal.returns
returns c = answer
