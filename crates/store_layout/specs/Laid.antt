-- What a layout holds of the exchange that it was made of, and what may be asked of it.
--
-- A layout keeps of the blocks only where their cells stand, so that it is the layout of every
-- exchange that has the same cells. What is asked of it needs one such exchange, and what it
-- answers holds of all.
use Rattle.std.specs.Prelude.{◌≡◌, ℕ, ◌+◌, ◌<◌, ◌≤◌, List, [], ◌∷◌, length, map, slice_get, Some}
use Rattle.exchange_model.specs.declared.block.Block.{Block}
use Rattle.exchange_model.specs.declared.entry.Cell.{Cell}
use Rattle.plex_limits.specs.declared.limits.TheConstants.{MOST_BLOCKS, MOST_CELLS}
use Rattle.exchange_model.specs.Cells.{Placed, block_cells, cell_count, placed_files, record_cells}
use Rattle.exchange_model.specs.Cells.{IsCell}
use Rattle.store_layout.specs.declared.row.BlockRow.{BlockRow}
use Rattle.store_layout.specs.declared.row.FileRow.{FileRow}
use Rattle.store_layout.specs.Rows.{Rows}

-- the rows of these blocks, the first of which begins at this word
abbrev pub block_rows : ℕ → List Block → List BlockRow
block_rows word [] = []
block_rows word (b ∷ bs) =
    record { first = word; variables = length b.variables } ∷ block_rows (word + block_cells b) bs

abbrev pub file_row : Placed → FileRow
file_row p = record {
  number = p.file.number;
  first = p.first;
  size = p.file.size;
  fields = length p.file.fields;
  stride = record_cells p.file;
}

-- this is the layout of an exchange of these blocks, whose files are numbered in order
pub record IsLayout (bs : List Block) (l : Rows) : Type 0 where
  pub blocks : l.blocks ≡ block_rows 0 bs
  pub files : l.files ≡ map file_row (placed_files bs)
  pub cells : l.cells ≡ cell_count bs
  pub numbered : (n : ℕ) (p : Placed) → slice_get (placed_files bs) n ≡ Some p → p.file.number ≡ n
  pub short : length bs ≤ MOST_BLOCKS
  pub few : cell_count bs ≤ MOST_CELLS

-- a cell of the exchange
pub record HasCell (l : Rows) (c : Cell) : Type 0 where
  pub blocks : List Block
  pub layout : IsLayout blocks l
  pub cell : IsCell blocks c

-- a word below the number of its cells
pub record HasWord (l : Rows) (word : ℕ) : Type 0 where
  pub blocks : List Block
  pub layout : IsLayout blocks l
  pub below : word < cell_count blocks
