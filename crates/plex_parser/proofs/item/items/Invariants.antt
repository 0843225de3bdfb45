use Rattle.std.proofs.Common.{◌≡◌, length}
use Rattle.plex_lexer.specs.Cursors.{ahead}
use Rattle.token_grammar.specs.Reading.{with_front, many}
use Rattle.plex_parser.specs.Blocks.{ITEM, item_read}
use Rattle.plex_parser.proofs.item.items.Given as goal

abbrev pub invariant-items : goal.invariant-items
invariant-items l = with_front l.list (many ITEM (item_read l.room l.deep) (ahead l.left)) ≡ many ITEM (item_read l.room l.deep) (ahead l.tokens)

abbrev pub decreases-items : goal.decreases-items
decreases-items l = length (ahead l.left)
