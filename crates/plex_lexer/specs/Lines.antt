-- The lines of a text.
use Rattle.std.specs.Prelude.{◌≡◌, ℕ, ◌+◌, ◌<◌, nat_eq, List, length, take, count_by}
use Rattle.plex_lexer.specs.declared.token.Token.{Token}

-- the number of LF bytes
abbrev pub feeds : List ℕ → ℕ
feeds bytes = count_by (λ b. nat_eq b 10) bytes

-- a token begins at a byte of the text, and its line is 1 plus the number of LF bytes before that
-- byte
abbrev pub IsOnItsLine : List ℕ → Token → Type 0
IsOnItsLine text token =
    (token.offset < length text) × (token.line ≡ 1 + feeds (take token.offset text))
