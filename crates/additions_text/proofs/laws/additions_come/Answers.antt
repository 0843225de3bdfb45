use Rattle.additions_text.proofs.Coming.{text_comes}
use Rattle.additions_text.proofs.laws.additions_come.Goals as goal

pub returns : goal.returns
returns c = text_comes
