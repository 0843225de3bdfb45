use Rattle.certificate_meaning.proofs.Judging.{never_closed}
use Rattle.certificate_meaning.proofs.laws.refused_is_not_closed.Goals as goal

pub returns : goal.returns
returns c = never_closed
