use Rattle.std.proofs.Common.{◌≡◌, length}
use Rattle.plex_lexer.specs.Cursors.{ahead}
use Rattle.token_grammar.specs.Reading.{with_front, many}
use Rattle.plex_ast.specs.Words.{SIGNAL}
use Rattle.declaration_parser.specs.Signals.{signal_read}
use Rattle.declaration_parser.proofs.signal.signals.Given as goal

abbrev pub invariant-signals : goal.invariant-signals
invariant-signals l = with_front l.list (many SIGNAL signal_read (ahead l.left)) ≡ many SIGNAL signal_read (ahead l.tokens)

abbrev pub decreases-signals : goal.decreases-signals
decreases-signals l = length (ahead l.left)
