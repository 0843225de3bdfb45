-- Lines and words as they are read: cut at the first LF or space.
use Rattle.std.specs.Prelude.{◌≡◌, ℕ, ◌≤◌, true, List, ◌++◌, length, map, Option}
use Rattle.std.specs.List.{flat_map, list_all}
use Rattle.plex_num.specs.Number.{number_of}
use Rattle.text_lines.specs.Parts.{HasNo, StartsWith}
use Rattle.listing.specs.Listing.{spaced, spoken}
use Rattle.text_lines.specs.Numerals.{is_numeral}

-- the bytes are a space, a word, and those after it
pub record IsNextWord (bytes word after : List ℕ) : Type 0 where
  pub apart : HasNo 32 word
  pub starts : StartsWith 32 after
  pub so : bytes ≡ spaced word ++ after

-- the bytes are numerals behind spaces, and operands are their values: none where one is not below
-- 2^32
pub record AreOperands (bytes : List ℕ) (operands : List (Option ℕ)) : Type 0 where
  pub words : List (List ℕ)
  pub numerals : list_all is_numeral words ≡ true
  pub so : bytes ≡ flat_map spaced words
  pub values : operands ≡ map number_of words

-- a line is a name, and operands behind it
pub record AreParts (line name : List ℕ) (operands : List (Option ℕ)) : Type 0 where
  pub apart : HasNo 32 name
  pub words : List (List ℕ)
  pub numerals : list_all is_numeral words ≡ true
  pub so : line ≡ spoken name words
  pub values : operands ≡ map number_of words

-- the bytes are not up to 4 numerals behind spaces
abbrev pub AreNoOperands : List ℕ → Type 0
AreNoOperands bytes = (words : List (List ℕ)) → list_all is_numeral words ≡ true
    → length words ≤ 4 → bytes ≡ flat_map spaced words → ⊥
