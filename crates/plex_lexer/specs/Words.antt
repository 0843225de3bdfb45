-- What runs of letters and digits say.
use Rattle.std.specs.Prelude.{ℕ, nat_lt, List, length, Option, Some, None, Result, Ok, Err}
use Rattle.std.specs.Prelude.{if◌then◌else◌}
use Rattle.name_tables.specs.Names.{keyword_names}
use Rattle.name_tables.specs.Rows.{place_of}
use Rattle.plex_num.specs.Number.{number_of}
use Rattle.plex_lexer.specs.declared.fault.LexFault.{LexFault}
use Rattle.plex_lexer.specs.declared.fault.LexFault.TheVariants.{BadNumber, LongName}
use Rattle.plex_lexer.specs.declared.token.TokenKind.{TokenKind}
use Rattle.plex_lexer.specs.declared.token.TokenKind.TheVariants.{Keyword, Name, Number}

-- the number of the keyword that the run is, if it is one
unfoldable pub keyword_of : List ℕ → Option ℕ
keyword_of run = place_of keyword_names run

-- a run that is no keyword is a name
abbrev pub keyword_or_name : List ℕ → Option ℕ → TokenKind
keyword_or_name run (Some number) = Keyword number
keyword_or_name run None = Name run

-- a run that begins with a letter; over 31 bytes it is at fault
abbrev pub word_kind : List ℕ → ℕ → ℕ → Result TokenKind LexFault
word_kind run offset line = (if nat_lt 31 (length run) then Err (LongName offset line)
    else Ok (keyword_or_name run (keyword_of run)))

-- a run of digits that is no number is at fault
abbrev pub number_or_fault : Option ℕ → ℕ → ℕ → Result TokenKind LexFault
number_or_fault (Some value) offset line = Ok (Number value)
number_or_fault None offset line = Err (BadNumber offset line)

-- a run of digits
abbrev pub number_kind : List ℕ → ℕ → ℕ → Result TokenKind LexFault
number_kind run offset line = number_or_fault (number_of run) offset line
