-- The text of code, as a function of the code.
--
-- A text is a list of lines, each ended by LF. A line is a name and words after it, one space
-- apart, and numbers are written in decimal, which has no leading zero: so nothing is left to
-- choose.
use Rattle.std.specs.Prelude.{◌≡◌, ℕ, ◌+◌, ◌<◌, ◌^◌, List, [], ◌∷◌, ◌++◌, length, map, All, codes}
use Rattle.std.specs.Fmt.{decimal}
use Rattle.std.specs.List.{flat_map}
use Rattle.machine_code.specs.Coded.{Code}
use Rattle.machine_code.specs.declared.op.Op.{Op}
use Rattle.machine_code.specs.Operands.{OpFits, IsNumber}
use Rattle.text_lines.specs.Lines.{ended}
use Rattle.listing.specs.Instructions.{written}

-- a word behind a space
abbrev pub spaced : List ℕ → List ℕ
spaced word = 32 ∷ word

-- a name and the words after it
abbrev pub spoken : List ℕ → List (List ℕ) → List ℕ
spoken name words = name ++ flat_map spaced words

-- the line of an instruction
unfoldable pub op_line : Op → List ℕ
op_line op = spoken (written op).name (map decimal (written op).operands)

-- the line of the entry i, which begins at this address
unfoldable pub entry_line : ℕ → ℕ → List ℕ
entry_line i address = spoken (codes "ENTRY") (decimal i ∷ decimal address ∷ [])

-- the lines of the entries from i on
unfoldable pub entry_lines : ℕ → List ℕ → List (List ℕ)
entry_lines i [] = []
entry_lines i (address ∷ rest) = entry_line i address ∷ entry_lines (i + 1) rest

abbrev pub first_line : List ℕ
first_line = codes "PLEX CODE 1"

abbrev pub last_line : List ℕ
last_line = codes "END CODE"

-- all lines between the first and the last
unfoldable pub inner_lines : Code → List (List ℕ)
inner_lines code = entry_lines 0 code.entries ++ map op_line code.ops

-- the listing
unfoldable pub code_text : Code → List ℕ
code_text code = flat_map ended (first_line ∷ inner_lines code ++ last_line ∷ [])

-- code that a listing can tell: each operand and each address is in its range, and a number of the
-- machine counts the entries
pub record CodeFits (code : Code) : Type 0 where
  pub ops : All OpFits code.ops
  pub entries : All IsNumber code.entries
  pub few : length code.entries < 2 ^ 64

-- the text is the listing of this code
pub record IsListing (text : List ℕ) (code : Code) : Type 0 where
  pub fits : CodeFits code
  pub so : text ≡ code_text code
