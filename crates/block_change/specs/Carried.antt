-- A state of one exchange, carried over to another one that fits.
--
-- Each variable, and each field of a record, has the value that it had where the old exchange has
-- one of the same names and the value fits its width, and else its INIT value. The mark of a record
-- is 1 where it stands in a chain, and else 0. Jobs, lines and chains name the entries and files of
-- the same names. There are no events, and all else is as it was.
use Rattle.std.specs.Prelude.{◌≡◌, ℕ, ◌^◌, nat_lt, Bool, List, [], map, Option, Some, None, length}
use Rattle.std.specs.Prelude.{slice_index, unwrap_or, if◌then◌else◌}
use Rattle.std.specs.Option.{option_map, option_map_or}
use Rattle.std.specs.FinMap as fin
use Rattle.exchange_model.specs.declared.block.File.{File}
use Rattle.exchange_model.specs.declared.block.Variable.{Variable}
use Rattle.exchange_model.specs.declared.entry.Cell.{Cell}
use Rattle.exchange_model.specs.declared.entry.Cell.TheVariants.{Mark}
use Rattle.exchange_model.specs.declared.entry.Entry.{Entry}
use Rattle.exchange_model.specs.declared.exchange.Exchange.{Exchange}
use Rattle.exchange_model.specs.Cells.{IsCell, cell_number}
use Rattle.job_types.specs.declared.chain.Held.{Held}
use Rattle.job_types.specs.Chain.{holds}
use Rattle.job_types.specs.Forlopps.{ChainMap, all_records}
use Rattle.job_types.specs.Waiting.{Waiting}
use Rattle.source_meaning.specs.State.{Arrived, Coming, State}
use Rattle.source_meaning.specs.Valid.{IsValid}
use Rattle.run_books.specs.declared.parts.BookParts.{BookParts}
use Rattle.run_books.specs.Accounts.{with_words}
use Rattle.run_books.specs.Parts.{AreParts, account_of}
use Rattle.block_change.specs.Renamed.{waiting_with}
use Rattle.block_change.specs.Same.{cell_variable, same_cell, same_entry, same_file}

-- jobs, lines and chains

-- the number of the entry of the same names, for each entry of x
abbrev pub number_for : (x y : Exchange) → Entry → ℕ
number_for x y r = unwrap_or (same_entry x y r) 0

abbrev pub new_entries : (x y : Exchange) → List ℕ
new_entries x y = map (number_for x y) x.entries

abbrev pub new_entry : (x y : Exchange) → ℕ → ℕ
new_entry x y e = slice_index (new_entries x y) e

abbrev pub carried_waiting : (x y : Exchange) → Waiting → Waiting
carried_waiting x y w = waiting_with (new_entries x y) w

abbrev pub carried_line : (x y : Exchange) → Coming → Coming
carried_line x y l = record l { entry = new_entry x y l.entry }

abbrev pub carried_arrived : (x y : Exchange) → Arrived → Arrived
carried_arrived x y a = record a { line = carried_line x y a.line }

-- the number of the file of the same names
abbrev pub new_file : (x y : Exchange) → ℕ → ℕ
new_file x y f = option_map_or (λ (g : File). g.number) (same_file x.blocks y.blocks f) 0

abbrev pub carried_held : (x y : Exchange) → Held → Held
carried_held x y h = record h { file = new_file x y h.file }

abbrev pub carried_chain : (x y : Exchange) → List Held → List Held
carried_chain x y chain = map (carried_held x y) chain

-- the map with these chains for the same numbers
unfoldable pub carried_chains : (x y : Exchange) → ChainMap → ChainMap
carried_chains x y m =
    fin.from_entries (map (λ (e : ℕ × List Held). (e.0, carried_chain x y e.1)) (fin.entries m))

-- stored words

-- the old value of a variable or a field, if there is one that fits, and else its INIT value
abbrev pub kept_value : Variable → Option ℕ → ℕ
kept_value e None = e.init
kept_value e (Some w) = (if nat_lt w (2 ^ e.width) then w else e.init)

-- the value of the cell of x that has the names of this cell of y, in this store of x
abbrev pub old_value : (x y : Exchange) → List ℕ → Cell → Option ℕ
old_value x y store c =
    option_map (λ d. slice_index store (cell_number x.blocks d)) (same_cell y.blocks x.blocks c)

abbrev pub mark_value : Bool → ℕ
mark_value held = (if held then 1 else 0)

-- the value of a cell of y, where x has this store, and the chains of y have these records
abbrev pub carried_value : (x y : Exchange) → (store : List ℕ) → (records : List Held) → Cell → ℕ
carried_value x y store records (Mark f n) = mark_value (holds records f n)
carried_value x y store records c = option_map_or
    (λ (e : Variable). kept_value e (old_value x y store c)) (cell_variable y.blocks c) 0

-- the words have the carried value of each cell
pub record AreCarriedWords (x y : Exchange) (store : List ℕ) (records : List Held)
    (words : List ℕ) : Type 0 where
  pub whole : length words ≡ y.cells
  pub each : (c : Cell) → IsCell y.blocks c → slice_index words (cell_number y.blocks c)
      ≡ carried_value x y store records c

-- the state of y with these words
abbrev pub carried_with : (x y : Exchange) → State → List ℕ → State
carried_with x y s words = record {
  store = words;
  waiting = carried_waiting x y s.waiting;
  chains = carried_chains x y s.chains;
  dead = s.dead;
  next = s.next;
  ended = s.ended;
  restarts = s.restarts;
  events = [];
  lines = map (carried_line x y) s.lines;
  arrived = map (carried_arrived x y) s.arrived;
}

-- t is the state s of x, carried over to y
pub record IsCarried (x y : Exchange) (s t : State) : Type 0 where
  pub books : t ≡ carried_with x y s t.store
  pub words : AreCarriedWords x y s.store (all_records t.chains) t.store

-- the state of books in parts and stored words
abbrev pub state_with : BookParts → List ℕ → State
state_with parts words = with_words (account_of parts).state words

-- the parts are those of books, which stand with these words for a valid state of the exchange
pub record AreStanding (x : Exchange) (parts : BookParts) (words : List ℕ) : Type 0 where
  pub are_parts : AreParts parts
  pub valid : IsValid x (state_with parts words)
