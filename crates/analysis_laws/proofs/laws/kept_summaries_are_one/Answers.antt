use Rattle.analysis_laws.proofs.Keeping.{kept_once}
use Rattle.analysis_laws.proofs.laws.kept_summaries_are_one.Goals as goal

pub returns : goal.returns
returns c = kept_once
