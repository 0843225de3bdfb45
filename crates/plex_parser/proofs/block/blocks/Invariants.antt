use Rattle.std.proofs.Common.{◌≡◌, length}
use Rattle.plex_lexer.specs.Cursors.{ahead}
use Rattle.token_grammar.specs.Reading.{with_front, many}
use Rattle.plex_ast.specs.Words.{BLOCK}
use Rattle.plex_parser.specs.Blocks.{block_read}
use Rattle.plex_parser.proofs.block.blocks.Given as goal

abbrev pub invariant-list : goal.invariant-list
invariant-list l = with_front l.list (many BLOCK (block_read l.room l.deep) (ahead l.left)) ≡ many BLOCK (block_read l.room l.deep) (ahead l.tokens)

abbrev pub decreases-list : goal.decreases-list
decreases-list l = length (ahead l.left)
