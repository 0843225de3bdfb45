use Rattle.std.proofs.Common.{◌≡◌, length}
use Rattle.plex_lexer.specs.Cursors.{ahead}
use Rattle.token_grammar.specs.Reading.{with_front, many}
use Rattle.plex_ast.specs.Words.{COMMA}
use Rattle.plex_expr_parser.specs.Readers.{comma_expr_read}
use Rattle.plex_expr_parser.proofs.lists.expr_list.Given as goal

abbrev pub invariant-exprs : goal.invariant-exprs
invariant-exprs l = with_front l.list (many COMMA (comma_expr_read l.room) (ahead l.left)) ≡ many COMMA (comma_expr_read l.room) (ahead l.tokens)

abbrev pub decreases-exprs : goal.decreases-exprs
decreases-exprs l = length (ahead l.left)
