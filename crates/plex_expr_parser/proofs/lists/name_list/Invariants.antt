use Rattle.std.proofs.Common.{◌≡◌, length}
use Rattle.plex_lexer.specs.Cursors.{ahead}
use Rattle.token_grammar.specs.Reading.{with_front, many}
use Rattle.plex_ast.specs.Words.{COMMA}
use Rattle.plex_expr_parser.specs.Readers.{comma_name_read}
use Rattle.plex_expr_parser.proofs.lists.name_list.Given as goal

abbrev pub invariant-names : goal.invariant-names
invariant-names l = with_front l.list (many COMMA comma_name_read (ahead l.left)) ≡ many COMMA comma_name_read (ahead l.tokens)

abbrev pub decreases-names : goal.decreases-names
decreases-names l = length (ahead l.left)
