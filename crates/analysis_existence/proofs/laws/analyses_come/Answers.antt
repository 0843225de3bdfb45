use Rattle.analysis_existence.proofs.Pairing.{analysis}
use Rattle.analysis_existence.proofs.laws.analyses_come.Goals as goal

pub returns : goal.returns
returns c = analysis
