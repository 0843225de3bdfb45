use Rattle.std.proofs.Common.{◌≡◌, length}
use Rattle.plex_lexer.specs.Cursors.{ahead}
use Rattle.token_grammar.specs.Reading.{with_front, many}
use Rattle.plex_ast.specs.Words.{FIELD}
use Rattle.declaration_parser.specs.Declarations.{field_read}
use Rattle.declaration_parser.proofs.declaration.fields.Given as goal

abbrev pub invariant-fields : goal.invariant-fields
invariant-fields l = with_front l.list (many FIELD field_read (ahead l.left)) ≡ many FIELD field_read (ahead l.tokens)

abbrev pub decreases-fields : goal.decreases-fields
decreases-fields l = length (ahead l.left)
