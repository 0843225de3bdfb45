use Rattle.std.proofs.Common.{◌≡◌, ◌++◌, length}
use Rattle.plex_lexer.specs.Cursors.{ahead}
use Rattle.token_grammar.specs.Reading.{with_front, many}
use Rattle.plex_ast.specs.Words.{RECEIVE, SEND}
use Rattle.declaration_parser.specs.Declarations.{survey_read}
use Rattle.declaration_parser.proofs.survey.survey_lines.Given as goal

abbrev pub invariant-lines : goal.invariant-lines
invariant-lines l = with_front l.list (many (RECEIVE ++ SEND) survey_read (ahead l.left)) ≡ many (RECEIVE ++ SEND) survey_read (ahead l.tokens)

abbrev pub decreases-lines : goal.decreases-lines
decreases-lines l = length (ahead l.left)
