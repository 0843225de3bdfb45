use Rattle.addition_laws.proofs.Joining.{run_together_adding}
use Rattle.addition_laws.proofs.laws.adding_jobs_run_together.Goals as goal

pub returns : goal.returns
returns c = λ x facts s first later a b closed h. run_together_adding x facts s first later a b closed h
