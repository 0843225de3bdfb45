use Rattle.std.proofs.Common.{◌≡◌, length}
use Rattle.plex_lexer.specs.Cursors.{ahead}
use Rattle.token_grammar.specs.Reading.{with_front, many}
use Rattle.plex_ast.specs.Words.{AND}
use Rattle.plex_expr_parser.specs.Readers.{and_read}
use Rattle.plex_expr_parser.proofs.condition.and_list.Given as goal

abbrev pub invariant-relations : goal.invariant-relations
invariant-relations l = with_front l.list (many AND (and_read l.room) (ahead l.left)) ≡ many AND (and_read l.room) (ahead l.tokens)

abbrev pub decreases-relations : goal.decreases-relations
decreases-relations l = length (ahead l.left)
