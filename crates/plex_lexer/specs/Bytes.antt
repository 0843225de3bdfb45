-- The bytes of a text, by what they do between tokens and in them.
use Rattle.std.specs.Prelude.{ℕ, Bool, ◌||◌, not, nat_eq}
use Rattle.std.specs.Char.{is_ascii_digit, is_ascii_uppercase}

-- a tabulator, a CR or a blank parts tokens, and so does LF, which also ends a line
abbrev pub is_blank : ℕ → Bool
is_blank b = nat_eq b 9 || nat_eq b 13 || nat_eq b 32

-- a capital letter or a digit goes on with a word
abbrev pub in_word : ℕ → Bool
in_word b = is_ascii_uppercase b || is_ascii_digit b

-- every byte but LF goes on with a comment
abbrev pub in_comment : ℕ → Bool
in_comment b = not (nat_eq b 10)
