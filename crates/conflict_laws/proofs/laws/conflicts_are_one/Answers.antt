use Rattle.conflict_laws.proofs.Once.{text_once}
use Rattle.conflict_laws.proofs.laws.conflicts_are_one.Goals as goal

pub returns : goal.returns
returns c = text_once
