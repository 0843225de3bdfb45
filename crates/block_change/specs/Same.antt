-- What is the same in two exchanges: blocks and signals of one name, entries of the same names, and
-- files, variables and fields of the same names, whatever their numbers are.
use Rattle.std.specs.Prelude.{ℕ, nat_lt, List, Option, None, position, slice_get, if◌then◌else◌}
use Rattle.std.specs.Option.{option_and_then, option_map}
use Rattle.exchange_model.specs.declared.block.Block.{Block}
use Rattle.exchange_model.specs.declared.block.File.{File}
use Rattle.exchange_model.specs.declared.block.Variable.{Variable}
use Rattle.exchange_model.specs.declared.entry.Cell.{Cell}
use Rattle.exchange_model.specs.declared.entry.Cell.TheVariants.{Variable as VariableCell, Field}
use Rattle.exchange_model.specs.declared.entry.Cell.TheVariants.{Mark}
use Rattle.exchange_model.specs.declared.entry.Entry.{Entry}
use Rattle.exchange_model.specs.declared.exchange.Exchange.{Exchange}
use Rattle.exchange_model.specs.declared.signal.SignalKind.{SignalKind}
use Rattle.exchange_model.specs.Cells.{Placed, placed_files}
use Rattle.exchange_model.specs.Index.{is_entry}
use Rattle.exchange_model.specs.Kept.{signal_name, variable_names}
use Rattle.block_change.specs.Names.{file_names, place_of}
use Rattle.exchange_model.specs.Names.{names_of_blocks, names_of_signals}

-- the block of these that has the name of block b of those
abbrev pub same_block : (those these : List Block) → ℕ → Option ℕ
same_block those these b =
    option_and_then (λ (k : Block). place_of k.name (names_of_blocks these)) (slice_get those b)

-- the same of a signal
abbrev pub same_signal : (those these : List SignalKind) → ℕ → Option ℕ
same_signal those these s = option_and_then (λ (k : SignalKind). place_of (signal_name k)
    (names_of_signals these)) (slice_get those s)

-- the entry of y at the block and for the signal of the same names
abbrev pub same_entry : (x y : Exchange) → Entry → Option ℕ
same_entry x y e = option_and_then (λ b. option_and_then (λ s. position (is_entry b s) y.entries)
    (same_signal x.signals y.signals e.signal)) (same_block x.blocks y.blocks e.block)

-- the file of this name in block b
abbrev pub file_at : List Block → List ℕ → ℕ → Option File
file_at blocks name b = option_and_then (λ (k : Block). option_and_then (slice_get k.files)
    (place_of name (file_names k.files))) (slice_get blocks b)

-- the file of these names
abbrev pub file_named : List Block → (block name : List ℕ) → Option File
file_named blocks block name =
    option_and_then (file_at blocks name) (place_of block (names_of_blocks blocks))

-- the file of these blocks that has the names of file f of those
abbrev pub same_file : (those these : List Block) → ℕ → Option File
same_file those these f = option_and_then (λ (p : Placed). option_and_then
    (file_at these p.file.name) (same_block those these p.block)) (slice_get (placed_files those) f)

-- cells

-- variable v of block b, and field i of file f
abbrev pub variable_at : List Block → (b v : ℕ) → Option Variable
variable_at blocks b v =
    option_and_then (λ (k : Block). slice_get k.variables v) (slice_get blocks b)

abbrev pub field_at : List Block → (f i : ℕ) → Option Variable
field_at blocks f i =
    option_and_then (λ (p : Placed). slice_get p.file.fields i) (slice_get (placed_files blocks) f)

-- the variable or the field of a cell; a mark has none
abbrev pub cell_variable : List Block → Cell → Option Variable
cell_variable blocks (VariableCell b v) = variable_at blocks b v
cell_variable blocks (Field f n i) = field_at blocks f i
cell_variable blocks (Mark f n) = None

-- the cell of this variable in block b
abbrev pub variable_cell_at : List Block → List ℕ → ℕ → Option Cell
variable_cell_at blocks name b = option_and_then
    (λ (k : Block). option_map (VariableCell b) (place_of name (variable_names k.variables)))
    (slice_get blocks b)

-- the cell of this field in record n of a file, where it has so many
abbrev pub field_cell_in : List ℕ → ℕ → File → Option Cell
field_cell_in name n g = (if nat_lt n g.size then option_map (Field g.number n)
    (place_of name (variable_names g.fields)) else None)

-- the cell of these blocks that has the names and the record of a cell of those; a mark has none
abbrev pub same_cell : (those these : List Block) → Cell → Option Cell
same_cell those these (VariableCell b v) = option_and_then
    (λ (e : Variable). option_and_then (variable_cell_at these e.name) (same_block those these b))
    (variable_at those b v)
same_cell those these (Field f n i) = option_and_then
    (λ (e : Variable). option_and_then (field_cell_in e.name n) (same_file those these f))
    (field_at those f i)
same_cell those these (Mark f n) = None
