use Rattle.conflict_laws.proofs.Coming.{text_comes}
use Rattle.conflict_laws.proofs.laws.conflicts_come.Goals as goal

pub returns : goal.returns
returns c = text_comes
