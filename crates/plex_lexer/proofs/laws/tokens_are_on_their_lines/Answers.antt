use Rattle.plex_lexer.proofs.Lines.{tokens_on_their_lines}
use Rattle.plex_lexer.proofs.laws.tokens_are_on_their_lines.Goals as goal

pub returns : goal.returns
returns c = tokens_on_their_lines
