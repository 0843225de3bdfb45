-- Records of a file, told as runs of numbers, and the words that a list of spans has.
use Rattle.std.specs.Prelude.{◌≡◌, ◌⊎◌, ℕ, ◌+◌, ◌*◌, ◌<◌, ◌≤◌, ◌&&◌, Bool, true, nat_eq, nat_lt}
use Rattle.std.specs.Prelude.{List, filter, map}
use Rattle.std.specs.List.{list_any}
use Rattle.job_types.specs.declared.chain.Held.{Held}
use Rattle.machine_code.specs.declared.permit.Span.{Span}
use Rattle.machine_code.specs.Permits.{spans}
use Rattle.exchange_model.specs.declared.exchange.Exchange.{Exchange}
use Rattle.exchange_model.specs.Cells.{Placed}
use Rattle.source_meaning.specs.Deeds.{IsFileAt}
use Rattle.store_layout.specs.declared.row.FileRow.{FileRow}
use Rattle.store_layout.specs.Laid.{file_row}
use Rattle.plex_limits.specs.declared.limits.TheConstants.{MOST_CELLS}
use Rattle.start_permit.specs.declared.runs.Run.{Run}
use Rattle.start_permit.specs.Granted.{OneOf}

-- the number is one of the run
abbrev pub InRun : Run → ℕ → Type 0
InRun run n = (run.first ≤ n) × (n < run.first + run.count)

-- these runs have the records below the size that are chosen, and no other number
pub record AreRuns (size : ℕ) (Chosen : ℕ → Type 0) (runs : List Run) : Type 0 where
  pub each : (n : ℕ) → OneOf InRun runs n → (n < size) × Chosen n
  pub back : (n : ℕ) → n < size → Chosen n → OneOf InRun runs n

-- the same of one run
pub record IsRunOf (size : ℕ) (Chosen : ℕ → Type 0) (run : Run) : Type 0 where
  pub each : (n : ℕ) → InRun run n → (n < size) × Chosen n
  pub back : (n : ℕ) → n < size → Chosen n → InRun run n

-- one of the spans has the word
abbrev pub spanned : List Span → ℕ → Bool
spanned ss w = list_any (λ s. spans s w) ss

-- the new spans have the words of the old ones, and exactly these besides
pub record Gains (G : ℕ → Type 0) (old new : List Span) : Type 0 where
  pub each : (w : ℕ) → spanned new w ≡ true → (spanned old w ≡ true) ⊎ G w
  pub back : (w : ℕ) → (spanned old w ≡ true) ⊎ G w → spanned new w ≡ true

-- the row of a file of the exchange
pub record IsRowOf (x : Exchange) (file : ℕ) (row : FileRow) : Type 0 where
  pub placed : Placed
  pub there : IsFileAt x file placed
  pub is : row ≡ file_row placed

-- the word at a place of a record of the run
pub record InRow (row : FileRow) (place : ℕ) (run : Run) (w : ℕ) : Type 0 where
  pub number : ℕ
  pub inside : InRun run number
  pub is : w ≡ row.first + number * row.stride + place

-- the place stands within a record, and the words of the file are within the limit
pub record RowFits (row : FileRow) (place : ℕ) : Type 0 where
  pub within : place ≤ row.stride
  pub few : row.first + row.size * row.stride ≤ MOST_CELLS

-- the records of the runs are below the size
pub record AreBelow (size : ℕ) (runs : List Run) : Type 0 where
  pub below : (n : ℕ) → OneOf InRun runs n → n < size

pub record IsBelow (size : ℕ) (run : Run) : Type 0 where
  pub below : (n : ℕ) → InRun run n → n < size

-- a record of the file, below the size
abbrev pub is_of : ℕ → ℕ → Held → Bool
is_of file size h = nat_eq h.file file && nat_lt h.number size

-- the numbers of the records of a file, below the size, that stand in a chain
abbrev pub numbers_of : ℕ → ℕ → List Held → List ℕ
numbers_of file size held = map (λ (h : Held). h.number) (filter (is_of file size) held)

-- the run of one record
abbrev pub one_run : ℕ → Run
one_run n = record { first = n; count = 1 }
