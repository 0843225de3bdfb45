use Rattle.analysis_laws.proofs.Refusing.{refused_once}
use Rattle.analysis_laws.proofs.laws.refusals_are_one.Goals as goal

pub returns : goal.returns
returns c = refused_once
