-- The first faulty line of a text that is no listing.
--
-- The lines of a text stand in a list, each with its LF, and behind them what follows the last LF,
-- which is nothing in a text that is ended well. So a text that breaks off, a last line without its
-- LF and bytes after the last line are all at fault at a line, the one that no listing has at its
-- place: a line is the first faulty one where the lines before it begin some listing, and no longer
-- with it.
use Rattle.std.specs.Prelude.{◌≡◌, ℕ, ◌-◌, List, [], ◌∷◌, ◌++◌, map, take, Result, Ok, Err}
use Rattle.std.specs.List.{AllByRecursion}
use Rattle.machine_code.specs.Coded.{Code}
use Rattle.listing.specs.declared.fault.ListFault.{ListFault}
use Rattle.listing.specs.declared.fault.ListFault.TheVariants.{BadLine, BadOperand, Memory}
use Rattle.listing.specs.Forms.{EachFrom, HasEntryForm, HasOpForm}
use Rattle.listing.specs.Listing.{CodeFits, IsListing, first_line, inner_lines, last_line}
use Rattle.text_lines.specs.Lines.{ended, lines_in}

-- a first line, these lines and a last line, as they stand in a text with nothing after them
abbrev pub whole : List (List ℕ) → List (List ℕ)
whole inner = map ended (first_line ∷ inner ++ last_line ∷ []) ++ [] ∷ []

-- these are the first lines of some listing
pub record BeginListing (lines : List (List ℕ)) : Type 0 where
  pub code : Code
  pub fits : CodeFits code
  pub rest : List (List ℕ)
  pub so : lines ++ rest ≡ whole (inner_lines code)

-- these are the first lines of some text that has the form of a listing
pub record BeginForm (lines : List (List ℕ)) : Type 0 where
  pub entries : List (List ℕ)
  pub ops : List (List ℕ)
  pub rest : List (List ℕ)
  pub numbered : EachFrom HasEntryForm 0 entries
  pub named : AllByRecursion HasOpForm ops
  pub so : lines ++ rest ≡ whole (entries ++ ops)

-- the line l, from 1, is the first that is not of the form of a listing, and those before it are
-- without fault
pub record HasBadLine (text : List ℕ) (l : ℕ) : Type 0 where
  pub before : BeginListing (take (l - 1) (lines_in text))
  pub here : BeginForm (take l (lines_in text)) → ⊥

-- the line l is of the form, and the first in which an operand is out of its range
pub record HasBadOperand (text : List ℕ) (l : ℕ) : Type 0 where
  pub before : BeginListing (take (l - 1) (lines_in text))
  pub form : BeginForm (take l (lines_in text))
  pub here : BeginListing (take l (lines_in text)) → ⊥

-- what an answer tells of a text
abbrev pub TellsListing : List ℕ → Result Code ListFault → Type 0
TellsListing text (Ok code) = IsListing text code
TellsListing text (Err (BadLine l)) = HasBadLine text l
TellsListing text (Err (BadOperand l)) = HasBadOperand text l
TellsListing text (Err Memory) = Unit {0}

-- the answer is this one, or memory was refused
abbrev pub IsUnlessMemory : Result Code ListFault → Result Code ListFault → Type 0
IsUnlessMemory (Err Memory) wanted = Unit {0}
IsUnlessMemory (Ok code) wanted = Ok code ≡ wanted
IsUnlessMemory (Err (BadLine l)) wanted = Err (BadLine l) ≡ wanted
IsUnlessMemory (Err (BadOperand l)) wanted = Err (BadOperand l) ≡ wanted
