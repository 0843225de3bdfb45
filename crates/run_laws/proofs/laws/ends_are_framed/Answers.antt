use Rattle.run_laws.proofs.Going.{end_framed}
use Rattle.run_laws.proofs.laws.ends_are_framed.Goals as goal

pub returns : goal.returns
returns c = end_framed
