use Rattle.std.proofs.Common.{◌≡◌, ◌+◌, ◌≤◌, length}
use Rattle.plex_lexer.specs.Lexed.{Between, lexed, tokens_of}
use Rattle.plex_lexer.specs.Pieces.{with_tokens, IsEnd}
use Rattle.plex_lexer.specs.Spots.{all_shown}
use Rattle.plex_lexer.proofs.lexer.lex.Given as goal

abbrev pub invariant-bytes : goal.invariant-bytes
invariant-bytes l = record {
  same : with_tokens (all_shown l.text l.spots) (lexed Between (length l.text) l.line l.rest) ≡ tokens_of l.text;
  end : IsEnd l.text l.rest;
  few : length l.spots + length l.rest ≤ length l.text;
  lines : l.line + length l.rest ≤ length l.text + 1;
  first : 1 ≤ l.line;
}

abbrev pub decreases-bytes : goal.decreases-bytes
decreases-bytes l = length l.rest
