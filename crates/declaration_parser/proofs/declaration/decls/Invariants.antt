use Rattle.std.proofs.Common.{◌≡◌, length}
use Rattle.plex_lexer.specs.Cursors.{ahead}
use Rattle.token_grammar.specs.Reading.{with_front, many}
use Rattle.declaration_parser.specs.Declarations.{DECL, decl_read}
use Rattle.declaration_parser.proofs.declaration.decls.Given as goal

abbrev pub invariant-decls : goal.invariant-decls
invariant-decls l = with_front l.list (many DECL decl_read (ahead l.left)) ≡ many DECL decl_read (ahead l.tokens)

abbrev pub decreases-decls : goal.decreases-decls
decreases-decls l = length (ahead l.left)
