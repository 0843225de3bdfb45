use Rattle.certificate_text.proofs.laws.lines_are_the_text.Goals as goal
use Rattle.text_lines.proofs.Texts.{lines_joined}

pub returns : goal.returns
returns c = lines_joined
