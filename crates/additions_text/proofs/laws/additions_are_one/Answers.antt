use Rattle.additions_text.proofs.Once.{text_once}
use Rattle.additions_text.proofs.laws.additions_are_one.Goals as goal

pub returns : goal.returns
returns c = text_once
