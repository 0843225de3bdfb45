use Rattle.analysis_laws.proofs.Telling.{analysis_once}
use Rattle.analysis_laws.proofs.laws.analyses_are_one.Goals as goal

pub returns : goal.returns
returns c = analysis_once
