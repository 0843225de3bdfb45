-- A job between two steps, and what the exchange says of the place where it is.
--
-- What remains to be done is one flat list of items: a branch puts its statements before what
-- follows it, and a jump replaces the list, which drops all loops that the job was in. A turn of a
-- loop is an item, so that each step counts one.
use Rattle.std.specs.Prelude.{ℕ, zero, suc, Bool, false, nat_lt, nat_eq, ◌&&◌, List, [], ◌∷◌, map}
use Rattle.std.specs.Prelude.{drop, replicate, position, slice_get, Option, Some, None, unwrap_or}
use Rattle.std.specs.Prelude.{if◌then◌else◌}
use Rattle.std.specs.List.{list_any}
use Rattle.std.specs.Option.{option_map_or}
use Rattle.plex_limits.specs.declared.limits.TheConstants.{MOST_TEMPORARIES}
use Rattle.job_types.specs.declared.outcome.Outcome.{Outcome}
use Rattle.exchange_model.specs.declared.exchange.Exchange.{Exchange}
use Rattle.exchange_model.specs.declared.entry.Entry.{Entry}
use Rattle.exchange_model.specs.declared.block.Block.{Block}
use Rattle.exchange_model.specs.declared.block.Enter.{Enter as Row}
use Rattle.exchange_model.specs.declared.block.Label.{Label}
use Rattle.exchange_model.specs.declared.stmt.Stmt.{Stmt}
use Rattle.exchange_model.specs.declared.stmt.StmtKind.{out-StmtKind}
use Rattle.exchange_model.specs.Cells.{Placed, placed_files, first_cell}
use Rattle.exchange_model.specs.Kept.{is_enter}
use Rattle.job_types.specs.Own.{Own, World}
use Rattle.source_meaning.specs.Value.{Sight}

-- one thing that remains to be done
pub data Item : Type 0 where
  -- a statement
  Do : (s : Stmt) → Item
  -- the ENTER of the signal that began the activation
  Start : (s : Stmt) → Item
  -- the turns of a loop from this number on
  Turns : (point temp this last : ℕ) (body : List Stmt) → Item

-- a sender that waits for an answer: where it goes on, and what it keeps
pub record Caller : Type 0 where
  pub block : ℕ
  pub todo : List Item
  pub temps : List ℕ
  pub given : List ℕ
  pub awaits : ℕ

-- a job between two steps; the last caller stands first
pub record Config : Type 0 where
  pub block : ℕ
  pub todo : List Item
  pub temps : List ℕ
  pub callers : List Caller
  pub own : Own
  pub world : World
  pub over : Option Outcome

-- what the exchange says of a block: its text, the place of a label, and that of the ENTER of a
-- signal
abbrev pub body_of : Exchange → ℕ → List Stmt
body_of x b = option_map_or (λ (k : Block). k.body) (slice_get x.blocks b) []

abbrev pub label_of : Exchange → ℕ → ℕ → ℕ
label_of x b l = option_map_or (λ (k : Block). option_map_or (λ (e : Label). e.place)
    (slice_get k.labels l) 0) (slice_get x.blocks b) 0

abbrev pub row_place : List Row → ℕ → ℕ
row_place [] signal = 0
row_place (r ∷ rest) signal = (if nat_eq r.signal signal then r.place else row_place rest signal)

abbrev pub enter_place : Exchange → ℕ → ℕ → ℕ
enter_place x b signal =
    option_map_or (λ (k : Block). row_place k.enters signal) (slice_get x.blocks b) 0

-- the block receives the signal
abbrev pub is_receiver : ℕ → Block → Bool
is_receiver signal k = list_any (λ (r : Row). nat_eq r.signal signal) k.enters

-- a reference is 1 plus a block's number: the block of it, where that receives the signal
abbrev pub receiver_of : Exchange → ℕ → ℕ → Option ℕ
receiver_of x signal zero = None
receiver_of x signal (suc b) =
    (if option_map_or (is_receiver signal) (slice_get x.blocks b) false then Some b else None)

-- the entry of a signal at a block, by its place in the list of entries
abbrev pub is_entry : ℕ → ℕ → Entry → Bool
is_entry b signal e = nat_eq e.block b && nat_eq e.signal signal

abbrev pub entry_number : Exchange → ℕ → ℕ → ℕ
entry_number x b signal = unwrap_or (position (is_entry b signal) x.entries) 0

-- the cell of the block's first variable
unfoldable pub base_of : Exchange → ℕ → ℕ
base_of x b = first_cell x.blocks b

-- the files of the exchange, by number
unfoldable pub files_of : Exchange → List Placed
files_of x = placed_files x.blocks

abbrev pub sight : Exchange → Config → Sight
sight x c = record {
  temps = c.temps;
  store = c.world.store;
  chain = c.own.chain;
  first = base_of x c.block;
  files = files_of x;
}

-- the temporaries of a new activation
abbrev pub blank : List ℕ
blank = replicate MOST_TEMPORARIES 0

-- what the statements from a place of a text on do
abbrev pub from_place : Exchange → ℕ → ℕ → List Item
from_place x b place = map Do (drop place (body_of x b))

-- what an activation does: the ENTER of its signal, and what follows
abbrev pub starting : List Stmt → List Item
starting [] = []
starting (s ∷ rest) = (if is_enter (out-StmtKind s.kind) then Start s ∷ map Do rest else [])

abbrev pub from_signal : Exchange → ℕ → ℕ → List Item
from_signal x b signal = starting (drop (enter_place x b signal) (body_of x b))

-- what remains from the next item on that is counted: an ENTER that is reached from above does
-- nothing and is not counted, and neither is a loop with no turn left
unfoldable pub next_counted : List Item → List Item
next_counted [] = []
next_counted (Do s ∷ rest) =
    (if is_enter (out-StmtKind s.kind) then next_counted rest else Do s ∷ rest)
next_counted (Start s ∷ rest) = Start s ∷ rest
next_counted (Turns p t this end body ∷ rest) =
    (if nat_lt end this then next_counted rest else Turns p t this end body ∷ rest)
