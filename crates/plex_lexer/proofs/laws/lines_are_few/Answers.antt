use Rattle.plex_lexer.proofs.Lines.{lines_are_few}
use Rattle.plex_lexer.proofs.laws.lines_are_few.Goals as goal

pub returns : goal.returns
returns c = lines_are_few
