-- Tokens as they are kept, and what each shows of its text.
use Rattle.std.specs.Prelude.{ℕ, ◌+◌, ◌-◌, ◌*◌, ◌/◌, ◌%◌, ◌<◌, nat_eq, nat_lt, List, [], take, drop}
use Rattle.std.specs.Prelude.{map, take_while, Option, Some, None, Result, Ok, Err, if◌then◌else◌}
use Rattle.std.specs.Char.{is_ascii_digit}
use Rattle.plex_num.specs.Number.{number_of}
use Rattle.plex_lexer.specs.declared.fault.LexFault.{LexFault}
use Rattle.plex_lexer.specs.declared.token.Token.{Token}
use Rattle.plex_lexer.specs.declared.token.TokenKind.{TokenKind}
use Rattle.plex_lexer.specs.declared.token.TokenKind.TheVariants as kinds
use Rattle.plex_lexer.specs.declared.sort.Sort.{Sort}
use Rattle.plex_lexer.specs.declared.sort.Sort.TheVariants as sorts
use Rattle.plex_lexer.specs.declared.spot.Spot.{Spot}
use Rattle.plex_lexer.specs.declared.spot.TheConstants.{OFFSETS}
use Rattle.plex_lexer.specs.Bytes.{in_word}

-- the sort of what a token is
abbrev pub sort_of : TokenKind → Sort
sort_of (kinds.Name name) = sorts.Name
sort_of (kinds.Number value) = sorts.Number
sort_of (kinds.Keyword keyword) = sorts.Keyword keyword
sort_of (kinds.Mark mark) = sorts.Mark mark

-- the name that a token is, and the number; none, and 0, where it is something else
abbrev pub name_in : TokenKind → List ℕ
name_in (kinds.Name name) = name
name_in (kinds.Number value) = []
name_in (kinds.Keyword keyword) = []
name_in (kinds.Mark mark) = []

abbrev pub number_in : TokenKind → ℕ
number_in (kinds.Number value) = value
number_in (kinds.Name name) = 0
number_in (kinds.Keyword keyword) = 0
number_in (kinds.Mark mark) = 0

-- the number that was read, and 0 where none was
abbrev pub value_of : Option ℕ → ℕ
value_of None = 0
value_of (Some value) = value

-- what a token of this sort is that begins with these bytes
abbrev pub kind_at : Sort → List ℕ → TokenKind
kind_at sorts.Name bytes = kinds.Name (take 31 (take_while in_word bytes))
kind_at sorts.Number bytes = kinds.Number (value_of (number_of (take_while is_ascii_digit bytes)))
kind_at (sorts.Keyword keyword) bytes = kinds.Keyword keyword
kind_at (sorts.Mark mark) bytes = kinds.Mark mark

-- .. or the fault of its bytes
abbrev pub kinds_at : Result Sort LexFault → List ℕ → Result TokenKind LexFault
kinds_at (Ok sort) bytes = Ok (kind_at sort bytes)
kinds_at (Err fault) bytes = Err fault

-- sorts that have a code below 256
abbrev pub IsSmall : Sort → Type 0
IsSmall sorts.Name = Unit {0}
IsSmall sorts.Number = Unit {0}
IsSmall (sorts.Keyword keyword) = keyword < 126
IsSmall (sorts.Mark mark) = mark < 128

-- the code of a sort, and the sort of a code
abbrev pub code_of : Sort → ℕ
code_of sorts.Name = 0
code_of sorts.Number = 1
code_of (sorts.Keyword keyword) = 2 + keyword
code_of (sorts.Mark mark) = 128 + mark

abbrev pub sort_by : ℕ → Sort
sort_by code =
    (if nat_lt 127 code then sorts.Mark (code - 128) else
    (if nat_lt 1 code then sorts.Keyword (code - 2) else
    (if nat_eq code 1 then sorts.Number else sorts.Name)))

-- a token of this sort, as it is kept
abbrev pub kept : Sort → ℕ → ℕ → Spot
kept sort offset line = record { place = code_of sort * OFFSETS + offset; line = line }

abbrev pub offset_of : Spot → ℕ
offset_of spot = spot.place % OFFSETS

abbrev pub spot_sort : Spot → Sort
spot_sort spot = sort_by (spot.place / OFFSETS)

-- the token of a text that is kept so
unfoldable pub shown : List ℕ → Spot → Token
shown text spot = record {
  kind = kind_at (spot_sort spot) (drop (offset_of spot) text);
  line = spot.line;
  offset = offset_of spot;
}

-- the tokens of a text that are kept so
abbrev pub all_shown : List ℕ → List Spot → List Token
all_shown text spots = map (shown text) spots
