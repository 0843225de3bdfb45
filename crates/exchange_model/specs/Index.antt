-- What an exchange knows by number, so that nothing is looked for by a walk: of each block its
-- first cell, of each file where it stands, and of each signal of a block its entry and its ENTER.
use Rattle.std.specs.Prelude.{◌≡◌, ℕ, ◌+◌, Bool, ◌&&◌, nat_eq, List, [], ◌∷◌, ◌++◌, length}
use Rattle.std.specs.Prelude.{position, Option, Some, None, slice_get, if◌then◌else◌}
use Rattle.std.specs.List.{find}
use Rattle.std.specs.Option.{MatchOption, option_map, option_or}
use Rattle.std.specs.HashMap.{get}
use Rattle.exchange_model.specs.declared.block.Block.{Block}
use Rattle.exchange_model.specs.declared.block.File.{File}
use Rattle.exchange_model.specs.declared.block.FilePlace.{FilePlace}
use Rattle.exchange_model.specs.declared.block.Enter.{Enter as Row}
use Rattle.exchange_model.specs.declared.entry.Entry.{Entry}
use Rattle.exchange_model.specs.declared.index.FilePosition.{FilePosition}
use Rattle.exchange_model.specs.declared.index.Noted.{Noted}
use Rattle.exchange_model.specs.declared.index.Index.{Index}
use Rattle.exchange_model.specs.Cells.{file_cells, block_cells, placed_files}
use Rattle.exchange_model.specs.Parts.{Parts}

-- what is found of the file of a number: nothing exactly where there is none, else the file, its
-- block and its first cell
abbrev pub FindsFile : List Block → ℕ → Option FilePlace → Type 0
FindsFile blocks number found =
    MatchOption found
    (slice_get (placed_files blocks) number ≡ None)
    (λ p. slice_get (placed_files blocks) number
    ≡ Some (record { block = p.block; file = p.file.now; first = p.first }))

-- the first cells of these blocks, the first of which begins at this cell
unfoldable pub firsts_from : ℕ → List Block → List ℕ
firsts_from cell [] = []
firsts_from cell (b ∷ bs) = cell ∷ firsts_from (cell + block_cells b) bs

-- where these files of a block stand, the first of which has this place and begins at this cell
unfoldable pub positions_in : ℕ → ℕ → ℕ → List File → List FilePosition
positions_in block place cell [] = []
positions_in block place cell (f ∷ fs) = record { block = block; place = place; first = cell }
    ∷ positions_in block (place + 1) (cell + file_cells f) fs

-- where the files of these blocks stand, the first of which has this number and begins at this cell
unfoldable pub positions_from : ℕ → ℕ → List Block → List FilePosition
positions_from block cell [] = []
positions_from block cell (b ∷ bs) = positions_in block 0 (cell + length b.variables) b.files
    ++ positions_from (block + 1) (cell + block_cells b) bs

-- an entry of this block and this signal
abbrev pub is_entry : ℕ → ℕ → Entry → Bool
is_entry block signal e = nat_eq e.block block && nat_eq e.signal signal

-- the place of the ENTER of a signal, by the first row of that signal
abbrev pub place_in : List Row → ℕ → Option ℕ
place_in rows signal =
    option_map (λ (r : Row). r.place) (find (λ (r : Row). nat_eq r.signal signal) rows)

-- the same in a block, if it is there
abbrev pub rows_of : Option Block → List Row
rows_of None = []
rows_of (Some k) = k.enters

abbrev pub enter_of : List Block → ℕ → ℕ → Option ℕ
enter_of blocks block signal = place_in (rows_of (slice_get blocks block)) signal

-- a block and a signal are those of this pair
abbrev pub is_pair : ℕ × ℕ → ℕ × ℕ → Bool
is_pair x y = nat_eq x.0 y.0 && nat_eq x.1 y.1

-- the number that was noted of a block and a signal
abbrev pub noted : Noted → ℕ → ℕ → Option ℕ
noted n block signal = get is_pair n.numbers (block, signal)

-- a number is noted of a block and a signal, unless one was, and what was noted stays
abbrev pub HasNoted : Noted → Noted → ℕ → ℕ → ℕ → Type 0
HasNoted before after block signal number =
    (b s : ℕ) → noted after b s ≡ option_or (noted before b s)
    (if nat_eq block b && nat_eq signal s then Some number else None)

-- the places of these rows of a block are noted
abbrev pub HasNotedRows : Noted → Noted → ℕ → List Row → Type 0
HasNotedRows before after block rows =
    (b s : ℕ) → noted after b s ≡ option_or (noted before b s)
    (if nat_eq block b then place_in rows s else None)

-- what is noted is the entry of each block and signal
abbrev pub IsOfEntries : Noted → List Entry → Type 0
IsOfEntries n entries =
    (block signal : ℕ) → noted n block signal ≡ position (is_entry block signal) entries

-- what is noted is the ENTER of each block and signal
abbrev pub IsOfEnters : Noted → List Block → Type 0
IsOfEnters n blocks = (block signal : ℕ) → noted n block signal ≡ enter_of blocks block signal

-- the index of these parts
pub record IsIndex (x : Parts) (i : Index) : Type 0 where
  pub firsts : i.firsts ≡ firsts_from 0 x.blocks
  pub files : i.files ≡ positions_from 0 0 x.blocks
  pub entries : IsOfEntries i.entries x.entries
  pub enters : IsOfEnters i.enters x.blocks
