use Rattle.run_laws.proofs.Framed.{run_framed}
use Rattle.run_laws.proofs.laws.runs_are_framed.Goals as goal

pub returns : goal.returns
returns c = run_framed
