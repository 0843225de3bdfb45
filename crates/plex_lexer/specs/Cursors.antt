-- What a token and the rest of a list of tokens show.
use Rattle.std.specs.Prelude.{ℕ, List, map}
use Rattle.plex_lexer.specs.declared.token.Token.{Token}
use Rattle.plex_lexer.specs.declared.cursor.Found.{Found}
use Rattle.plex_lexer.specs.declared.cursor.Cursor.{Cursor}
use Rattle.plex_lexer.specs.Spots.{shown, all_shown}

-- the token
unfoldable pub token : Found → Token
token found = shown found.text.now found.spot

-- the tokens ahead
unfoldable pub ahead : Cursor → List Token
ahead cursor = all_shown cursor.text.now cursor.spots.now

-- the lines of tokens
abbrev pub lines : List Token → List ℕ
lines tokens = map (λ t. t.line) tokens
