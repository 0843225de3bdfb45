-- One token at a time: the token at a byte, and the bytes after it.
use Rattle.std.specs.Prelude.{◌≡◌, ℕ, Bool, true, false, List, ◌∷◌, ◌++◌, length, take_while, drop}
use Rattle.std.specs.Prelude.{Option, Some, None, Result, Ok, Err, if◌then◌else◌}
use Rattle.std.specs.Char.{is_ascii_digit, is_ascii_uppercase}
use Rattle.plex_lexer.specs.declared.fault.LexFault.{LexFault}
use Rattle.plex_lexer.specs.declared.fault.LexFault.TheVariants.{BadByte}
use Rattle.plex_lexer.specs.declared.token.Token.{Token}
use Rattle.plex_lexer.specs.declared.token.TokenKind.{TokenKind}
use Rattle.plex_lexer.specs.declared.token.TokenKind.TheVariants.{Mark}
use Rattle.plex_lexer.specs.Bytes.{in_word}
use Rattle.plex_lexer.specs.Lexed.{lexed, Between, put}
use Rattle.plex_lexer.specs.Marks.{mark_of}
use Rattle.plex_lexer.specs.declared.sort.Sort.{Sort}
use Rattle.plex_lexer.specs.Spots.{kind_at}
use Rattle.plex_lexer.specs.Words.{word_kind, number_kind}

-- a token of this kind, and the bytes left
abbrev pub kind_and_rest : Result TokenKind LexFault → ℕ → ℕ → List ℕ
    → Result (Token × List ℕ) LexFault
kind_and_rest (Ok kind) offset line left =
    Ok (record { kind = kind; line = line; offset = offset }, left)
kind_and_rest (Err fault) offset line left = Err fault

-- a token of this mark, and the bytes left of those after its first
abbrev pub mark_and_rest : Option (ℕ × Bool) → ℕ → ℕ → List ℕ → Result (Token × List ℕ) LexFault
mark_and_rest None offset line left = Err (BadByte offset line)
mark_and_rest (Some (number, true)) offset line left =
    Ok (record { kind = Mark number; line = line; offset = offset }, drop 1 left)
mark_and_rest (Some (number, false)) offset line left =
    Ok (record { kind = Mark number; line = line; offset = offset }, left)

-- the token that begins at the byte b, which those of rest follow, and the bytes after it
abbrev pub token_at : ℕ → ℕ → ℕ → List ℕ → Result (Token × List ℕ) LexFault
token_at offset line b rest =
    (if is_ascii_uppercase b then kind_and_rest
    (word_kind (b ∷ take_while in_word rest) offset line) offset line
    (drop (length (take_while in_word rest)) rest) else
    (if is_ascii_digit b then kind_and_rest (number_kind (b ∷ take_while is_ascii_digit rest) offset
    line) offset line (drop (length (take_while is_ascii_digit rest)) rest) else
    mark_and_rest (mark_of b rest) offset line rest))

-- the tokens of a text of n bytes from this one on
abbrev pub and_the_rest : ℕ → ℕ → Result (Token × List ℕ) LexFault → Result (List Token) LexFault
and_the_rest n line (Ok piece) = put piece.0 (lexed Between n line piece.1)
and_the_rest n line (Err fault) = Err fault

-- tokens in front of those that follow
abbrev pub with_tokens : List Token → Result (List Token) LexFault → Result (List Token) LexFault
with_tokens front (Ok tokens) = Ok (front ++ tokens)
with_tokens front (Err fault) = Err fault

-- a token told by its sort, which begins with these bytes, and the bytes after it, which a
-- reference lends
abbrev pub seen : {R : Type 0} → (R → List ℕ) → List ℕ → ℕ → ℕ → Result (Sort × R) LexFault
    → Result (Token × List ℕ) LexFault
seen view bytes offset line (Ok piece) =
    Ok (record { kind = kind_at piece.0 bytes; line = line; offset = offset }, view piece.1)
seen view bytes offset line (Err fault) = Err fault

-- bytes are the last ones of a text
unfoldable pub IsEnd : List ℕ → List ℕ → Type 0
IsEnd text end = (front : List ℕ) × (text ≡ front ++ end)
