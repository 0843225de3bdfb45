use Rattle.std.proofs.Common.{◌≡◌, length}
use Rattle.plex_lexer.specs.Cursors.{ahead}
use Rattle.token_grammar.specs.Reading.{with_front, many}
use Rattle.plex_ast.specs.Words.{OR}
use Rattle.plex_expr_parser.specs.Readers.{or_read}
use Rattle.plex_expr_parser.proofs.condition.or_list.Given as goal

abbrev pub invariant-conjs : goal.invariant-conjs
invariant-conjs l = with_front l.list (many OR (or_read l.room) (ahead l.left)) ≡ many OR (or_read l.room) (ahead l.tokens)

abbrev pub decreases-conjs : goal.decreases-conjs
decreases-conjs l = length (ahead l.left)
