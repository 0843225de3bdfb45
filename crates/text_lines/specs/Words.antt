-- The words of a line.
--
-- Lines end with LF, a CR directly before it is no part of them, and the last LF may be missing.
-- The words of a line are its longest runs of bytes other than space and tab.
use Rattle.std.specs.Prelude.{◌==◌, ℕ, nat_eq, Bool, true, false, ◌||◌, List, [], ◌∷◌, filter}
use Rattle.std.specs.List.{slice_split}

abbrev pub is_line_end : ℕ → Bool
is_line_end b = b == 10

abbrev pub is_blank : ℕ → Bool
is_blank b = nat_eq b 32 || nat_eq b 9

abbrev pub is_some_byte : List ℕ → Bool
is_some_byte [] = false
is_some_byte (b ∷ rest) = true

-- the words of a line
unfoldable pub words : List ℕ → List (List ℕ)
words line = filter is_some_byte (slice_split is_blank line)

-- a comment has `!` as its first byte
abbrev pub is_comment : List ℕ → Bool
is_comment [] = false
is_comment (b ∷ rest) = nat_eq b 33

abbrev pub has_no_word : List (List ℕ) → Bool
has_no_word [] = true
has_no_word (w ∷ rest) = false

-- a line that is empty or blank, or a comment
abbrev pub is_skipped : List ℕ → Bool
is_skipped line = has_no_word (words line) || is_comment line
