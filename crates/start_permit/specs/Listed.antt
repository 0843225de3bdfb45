-- The words of all variables of an exchange, and the places of all its fields, in the order of
-- their numbers.
use Rattle.std.specs.Prelude.{◌≡◌, ℕ, ◌+◌, ◌<◌, ◌^◌, List, [], ◌∷◌, ◌++◌, length, map, Some}
use Rattle.std.specs.Prelude.{slice_get}
use Rattle.std.specs.List.{range_with_len}
use Rattle.exchange_model.specs.declared.block.Block.{Block}
use Rattle.exchange_model.specs.declared.block.File.{File}
use Rattle.exchange_model.specs.Cells.{block_cells}
use Rattle.exchange_model.specs.Inside.{joined}
use Rattle.start_permit.specs.declared.table.FieldPlace.{FieldPlace}

-- so many words from one on
abbrev pub words_from : ℕ → ℕ → List ℕ
words_from first count = map (λ i. first + i) (range_with_len 0 count)

-- the words of the variables of these blocks, the first of which begins at this cell
unfoldable pub variable_words : ℕ → List Block → List ℕ
variable_words cell [] = []
variable_words cell (b ∷ bs) =
    words_from cell (length b.variables) ++ variable_words (cell + block_cells b) bs

-- the places of the fields of a file, of a block, and of these blocks
abbrev pub place_at : ℕ → ℕ → FieldPlace
place_at file field = record { file = file; field = field }

abbrev pub file_places : File → List FieldPlace
file_places f = map (place_at f.number) (range_with_len 0 (length f.fields))

abbrev pub block_places : Block → List FieldPlace
block_places b = joined (map file_places b.files)

unfoldable pub field_places : List Block → List FieldPlace
field_places blocks = joined (map block_places blocks)

-- each file has fewer fields than there are numbers of 32 bits
pub record AreSmall (files : List File) : Type 0 where
  pub small : (i : ℕ) (f : File) → slice_get files i ≡ Some f → length f.fields < 2 ^ 32

pub record AllSmall (blocks : List Block) : Type 0 where
  pub small : (b : ℕ) (k : Block) → slice_get blocks b ≡ Some k → AreSmall k.files
