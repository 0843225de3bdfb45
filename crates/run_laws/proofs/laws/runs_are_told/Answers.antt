use Rattle.run_laws.proofs.Told.{run_told}
use Rattle.run_laws.proofs.laws.runs_are_told.Goals as goal

pub returns : goal.returns
returns c = run_told
