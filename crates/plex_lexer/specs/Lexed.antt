-- The tokens of a text, by cases on its bytes.
--
-- A token is made at its first byte, of the longest run or mark that begins there. The bytes that
-- follow are then passed over by a mode, which says what the text before has begun. An offset is
-- counted from the text's length, so that no case adds up.
use Rattle.std.specs.Prelude.{◌≡◌, ℕ, ◌+◌, ◌-◌, Bool, false, nat_eq, List, [], ◌∷◌, length}
use Rattle.std.specs.Prelude.{take_while, Option, Some, None, Result, Ok, Err, if◌then◌else◌}
use Rattle.std.specs.Char.{is_ascii_digit, is_ascii_uppercase}
use Rattle.plex_lexer.specs.declared.fault.LexFault.{LexFault}
use Rattle.plex_lexer.specs.declared.fault.LexFault.TheVariants.{BadByte, BadNumber, LongName}
use Rattle.plex_lexer.specs.declared.fault.LexFault.TheVariants.{Memory}
use Rattle.plex_lexer.specs.declared.token.Token.{Token}
use Rattle.plex_lexer.specs.declared.token.TokenKind.{TokenKind}
use Rattle.plex_lexer.specs.declared.token.TokenKind.TheVariants.{Mark}
use Rattle.plex_lexer.specs.Bytes.{is_blank, in_word, in_comment}
use Rattle.plex_lexer.specs.Marks.{mark_of}
use Rattle.plex_lexer.specs.Words.{word_kind, number_kind}

-- what the text before has begun: nothing, a comment, a word, a number, or a mark of two bytes
pub data Mode : Type 0 where
  Between : Mode
  Comment : Mode
  InWord : Mode
  InDigits : Mode
  InMark : Mode

-- whether the byte goes on with it
abbrev pub goes_on : Mode → ℕ → Bool
goes_on Between b = false
goes_on Comment b = in_comment b
goes_on InWord b = in_word b
goes_on InDigits b = is_ascii_digit b
goes_on InMark b = false

-- a token in front of those that follow; a fault that follows stays
abbrev pub put : Token → Result (List Token) LexFault → Result (List Token) LexFault
put token (Ok tokens) = Ok (token ∷ tokens)
put token (Err fault) = Err fault

-- a token of this kind in front of those that follow; a fault here is the first
abbrev pub with_kind : Result TokenKind LexFault → ℕ → ℕ → Result (List Token) LexFault
    → Result (List Token) LexFault
with_kind (Ok kind) offset line more =
    put (record { kind = kind; line = line; offset = offset }) more
with_kind (Err fault) offset line more = Err fault

-- this mark in front of what follows in its mode; where there is no mark the byte is at fault
abbrev pub with_mark : Option (ℕ × Bool) → ℕ → ℕ → (Mode → Result (List Token) LexFault)
    → Result (List Token) LexFault
with_mark None offset line follow = Err (BadByte offset line)
with_mark (Some mark) offset line follow = put
    (record { kind = Mark mark.0; line = line; offset = offset })
    (follow (if mark.1 then InMark else Between))

-- what begins at the byte b, which those of rest follow; follow gives their tokens, from a mode and
-- a line
abbrev pub begins : (Mode → ℕ → Result (List Token) LexFault) → ℕ → ℕ → ℕ → List ℕ
    → Result (List Token) LexFault
begins follow offset line b rest =
    (if nat_eq b 10 then follow Between (line + 1) else
    (if is_blank b then follow Between line else
    (if nat_eq b 33 then follow Comment line else
    (if is_ascii_uppercase b then with_kind (word_kind (b ∷ take_while in_word rest) offset line)
    offset line (follow InWord line) else
    (if is_ascii_digit b then with_kind (number_kind (b ∷ take_while is_ascii_digit rest) offset
    line) offset line (follow InDigits line) else
    with_mark (mark_of b rest) offset line (λ mode. follow mode line))))))

-- the tokens of the last bytes of a text of n bytes, or the first fault there
unfoldable pub lexed : Mode → ℕ → ℕ → List ℕ → Result (List Token) LexFault
lexed mode n line [] = Ok []
lexed InMark n line (b ∷ rest) = lexed Between n line rest
lexed mode n line (b ∷ rest) =
    (if goes_on mode b then lexed mode n line rest else
    begins (λ m l. lexed m n l rest) (n - length (b ∷ rest)) line b rest)

-- the tokens of a text, or the first fault in it
unfoldable pub tokens_of : List ℕ → Result (List Token) LexFault
tokens_of text = lexed Between (length text) 1 text

-- an answer tells what was read, and may be that memory was refused
abbrev pub TellsTokens : Result (List Token) LexFault → Result (List Token) LexFault → Type 0
TellsTokens (Ok tokens) read = read ≡ Ok tokens
TellsTokens (Err (BadByte offset line)) read = read ≡ Err (BadByte offset line)
TellsTokens (Err (BadNumber offset line)) read = read ≡ Err (BadNumber offset line)
TellsTokens (Err (LongName offset line)) read = read ≡ Err (LongName offset line)
TellsTokens (Err Memory) read = Unit {0}
