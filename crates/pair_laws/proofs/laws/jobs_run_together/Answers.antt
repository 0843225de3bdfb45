use Rattle.pair_laws.proofs.Joining.{run_together}
use Rattle.pair_laws.proofs.laws.jobs_run_together.Goals as goal

pub returns : goal.returns
returns c = λ x facts s first later a b closed h. run_together x facts s first later a b closed h
