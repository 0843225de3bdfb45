-- Which lines stand in a listing, and which have the form of one that does.
--
-- A line has the form where its name is right and as many numerals stand behind it as the name
-- wants. It stands in a listing where these numerals are in their ranges too. A numeral may be of
-- any length.
use Rattle.std.specs.Prelude.{◌≡◌, ℕ, ◌+◌, true, List, [], ◌∷◌, length, codes}
use Rattle.std.specs.Fmt.{decimal}
use Rattle.std.specs.List.{list_all}
use Rattle.machine_code.specs.declared.op.Op.{Op}
use Rattle.machine_code.specs.Operands.{OpFits, IsNumber}
use Rattle.text_lines.specs.Numerals.{is_numeral}
use Rattle.listing.specs.Instructions.{written}
use Rattle.listing.specs.Listing.{spoken, op_line, entry_line}

-- the line of an instruction, all of whose operands are in their ranges
pub record IsOpLine (line : List ℕ) : Type 0 where
  pub op : Op
  pub fits : OpFits op
  pub so : line ≡ op_line op

-- the name of an instruction, and as many numerals as it has operands
pub record HasOpForm (line : List ℕ) : Type 0 where
  pub op : Op
  pub words : List (List ℕ)
  pub numerals : list_all is_numeral words ≡ true
  pub as_many : length words ≡ length (written op).operands
  pub so : line ≡ spoken (written op).name words

-- the line of the entry i, at an address in range
pub record IsEntryLine (i : ℕ) (line : List ℕ) : Type 0 where
  pub address : ℕ
  pub fits : IsNumber address
  pub so : line ≡ entry_line i address

-- the name and the number of the entry i, and a numeral
pub record HasEntryForm (i : ℕ) (line : List ℕ) : Type 0 where
  pub word : List ℕ
  pub numeral : is_numeral word ≡ true
  pub so : line ≡ spoken (codes "ENTRY") (decimal i ∷ word ∷ [])

-- each of the lines is as it must be at its number, from i on
abbrev pub EachFrom : (ℕ → List ℕ → Type 0) → ℕ → List (List ℕ) → Type 0
EachFrom P i [] = Unit {0}
EachFrom P i (line ∷ rest) = P i line × EachFrom P (i + 1) rest
