use Rattle.conflicts_program.proofs.Once.{answer}
use Rattle.conflicts_program.proofs.laws.an_answer_comes.Goals as goal

pub returns : goal.returns
returns c = answer
