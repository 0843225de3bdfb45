-- The numbering of the cells, which are the stored variables, fields and marks of all blocks: block
-- by block, first its variables in order, then its files in order, record by record the fields in
-- order and, for a forlopp file, the mark. A store is a list of values in this order, so that a
-- cell is a place in it. Past the last block, file or record each definition still gives a number,
-- so that none needs a premise.
use Rattle.std.specs.Prelude.{◌≡◌, ℕ, ◌+◌, ◌*◌, ◌<◌, Bool, true, false, List, [], ◌∷◌, ◌++◌, length}
use Rattle.std.specs.Prelude.{take, sum_by, slice_get}
use Rattle.std.specs.Option.{IsSomeAnd, option_map, unwrap_or}
use Rattle.exchange_model.specs.declared.block.Block.{Block}
use Rattle.exchange_model.specs.declared.block.File.{File}
use Rattle.exchange_model.specs.declared.entry.Cell.{Cell}
use Rattle.exchange_model.specs.declared.entry.Cell.TheVariants.{Variable, Field, Mark}

-- a forlopp file has a mark in each record
abbrev pub marks : Bool → ℕ
marks false = 0
marks true = 1

-- the cells of one record
abbrev pub record_cells : File → ℕ
record_cells f = length f.fields + marks f.forlopp

-- the cells of all records
abbrev pub file_cells : File → ℕ
file_cells f = f.size * record_cells f

abbrev pub block_cells : Block → ℕ
block_cells b = length b.variables + sum_by file_cells b.files

-- how many cells the blocks have
abbrev pub cell_count : List Block → ℕ
cell_count blocks = sum_by block_cells blocks

-- the cell of a block's first variable: the cells of the blocks before it are counted
abbrev pub first_cell : List Block → ℕ → ℕ
first_cell blocks b = cell_count (take b blocks)

-- the cell of a block's variable
abbrev pub variable_cell : List Block → ℕ → ℕ → ℕ
variable_cell blocks b v = first_cell blocks b + v

-- a file, its block, and the cell at which its records begin
pub record Placed : Type 0 where
  pub block : ℕ
  pub file : File
  pub first : ℕ

-- the files of a block, the first of which begins at this cell
abbrev pub placed_in : ℕ → ℕ → List File → List Placed
placed_in block cell [] = []
placed_in block cell (f ∷ fs) =
    record { block = block; file = f; first = cell } ∷ placed_in block (cell + file_cells f) fs

-- the files of these blocks, the first of which has this number and begins at this cell
abbrev pub placed_from : ℕ → ℕ → List Block → List Placed
placed_from block cell [] = []
placed_from block cell (b ∷ bs) = placed_in block (cell + length b.variables) b.files
    ++ placed_from (block + 1) (cell + block_cells b) bs

-- the files of all blocks in order: a file's number is its place here
unfoldable pub placed_files : List Block → List Placed
placed_files blocks = placed_from 0 0 blocks

-- the cell of a field of a record
abbrev pub field_cell : Placed → ℕ → ℕ → ℕ
field_cell p number field = p.first + number * record_cells p.file + field

-- the cell of a record's mark, which follows its fields
abbrev pub mark_cell : Placed → ℕ → ℕ
mark_cell p number = field_cell p number (length p.file.fields)

-- a cell of the exchange: a variable of a block, a field of a record, or the mark of a record of a
-- forlopp file
abbrev pub IsCell : List Block → Cell → Type 0
IsCell blocks (Variable block index) =
    IsSomeAnd (slice_get blocks block) (λ b. index < length b.variables)
IsCell blocks (Field file number field) = IsSomeAnd (slice_get (placed_files blocks) file)
    (λ p. (number < p.file.size) × (field < length p.file.fields))
IsCell blocks (Mark file number) = IsSomeAnd (slice_get (placed_files blocks) file)
    (λ p. (number < p.file.size) × (p.file.forlopp ≡ true))

-- the number of a cell
abbrev pub cell_number : List Block → Cell → ℕ
cell_number blocks (Variable block index) = variable_cell blocks block index
cell_number blocks (Field file number field) =
    unwrap_or (option_map (λ p. field_cell p number field) (slice_get (placed_files blocks) file)) 0
cell_number blocks (Mark file number) =
    unwrap_or (option_map (λ p. mark_cell p number) (slice_get (placed_files blocks) file)) 0
