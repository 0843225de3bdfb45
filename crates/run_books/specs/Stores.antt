-- The stores of a release and of a restart, in their order.
use Rattle.std.specs.Prelude.{◌≡◌, ℕ, zero, suc, ◌+◌, ◌*◌, Bool, true, List, [], ◌∷◌, ◌++◌}
use Rattle.std.specs.Prelude.{flat_map, length, slice_get, if◌then◌else◌}
use Rattle.std.specs.Option.{option_map_or}
use Rattle.job_types.specs.declared.chain.Held.{Held}
use Rattle.job_types.specs.declared.outcome.JobDone.{JobDone}
use Rattle.job_types.specs.declared.outcome.Outcome.{Outcome}
use Rattle.job_types.specs.declared.outcome.Outcome.TheVariants.{Ended, Faulted}
use Rattle.job_types.specs.declared.touch.Touch.{Touch}
use Rattle.job_types.specs.declared.touch.Touch.TheVariants.{Load, Store}
use Rattle.job_types.specs.Forlopps.{ChainMap, all_records}
use Rattle.exchange_model.specs.declared.block.Block.{Block}
use Rattle.exchange_model.specs.declared.block.Variable.{Variable}
use Rattle.exchange_model.specs.declared.exchange.Exchange.{Exchange}
use Rattle.exchange_model.specs.Cells.{Placed, block_cells, placed_files, record_cells}
use Rattle.run_books.specs.declared.aftermath.Aftermath.{Aftermath}
use Rattle.run_books.specs.declared.stores.Write.{Write}

-- a store, as a touch
abbrev pub touch_of : Write → Touch
touch_of w = Store w.word w.value

-- the fields of a record, from this cell on, get their INIT values
abbrev pub field_stores : ℕ → List Variable → List Write
field_stores cell [] = []
field_stores cell (v ∷ rest) = record { word = cell; value = v.init } ∷ field_stores (cell + 1) rest

-- the cell of a record's first field, or of its mark where it has none
abbrev pub first_of : Placed → ℕ → ℕ
first_of p number = p.first + number * record_cells p.file

-- a record is opened: its fields, and then its mark
abbrev pub record_stores : Placed → ℕ → List Write
record_stores p number = field_stores (first_of p number) p.file.fields
    ++ record { word = first_of p number + length p.file.fields; value = 0 } ∷ []

abbrev pub held_stores : List Placed → Held → List Write
held_stores files h = option_map_or (λ p. record_stores p h.number) (slice_get files h.file) []

-- these records are opened
abbrev pub all_stores : List Placed → List Held → List Write
all_stores files hs = flat_map (held_stores files) hs

-- a record of an exchange is opened
abbrev pub open_store : Exchange → Held → List Write
open_store x h = held_stores (placed_files x.blocks) h

-- these records of an exchange are opened
abbrev pub open_stores : Exchange → List Held → List Write
open_stores x hs = all_stores (placed_files x.blocks) hs

-- a variable gets its INIT value, if it is CLEAR
abbrev pub clear_of : ℕ → Variable → List Write
clear_of cell v = (if v.clear then record { word = cell; value = v.init } ∷ [] else [])

-- those of these variables, the first of which has this cell
abbrev pub clear_stores : ℕ → List Variable → List Write
clear_stores cell [] = []
clear_stores cell (v ∷ rest) = clear_of cell v ++ clear_stores (cell + 1) rest

-- those of these blocks, the first of which begins at this cell
abbrev pub all_clear_stores : ℕ → List Block → List Write
all_clear_stores cell [] = []
all_clear_stores cell (k ∷ rest) =
    clear_stores cell k.variables ++ all_clear_stores (cell + block_cells k) rest

-- those of a restart: the records of all chains are opened, and the CLEAR variables get their INIT
-- values
abbrev pub restart_stores : Exchange → ChainMap → List Write
restart_stores x chains =
    all_stores (placed_files x.blocks) (all_records chains) ++ all_clear_stores 0 x.blocks

-- the aftermath of a job of this forlopp, which left this chain, where the forlopps have these
-- chains: nothing is to be stored after a job that ended of itself; a fault opens the records of
-- the chain or, without a forlopp, all that a restart opens
abbrev pub IsAftermath : Exchange → ℕ → Outcome → List Held → ChainMap → Aftermath → Type 0
IsAftermath x forlopp Ended chain chains a = a.stores ≡ []
IsAftermath x zero (Faulted f point) chain chains a =
    (a.stores ≡ restart_stores x chains) × (a.records ≡ length (all_records chains))
IsAftermath x (suc n) (Faulted f point) chain chains a =
    a.stores ≡ all_stores (placed_files x.blocks) chain

-- the aftermath of a job of this forlopp that left this
abbrev pub IsAftermathOf : Exchange → ℕ → JobDone → ChainMap → Aftermath → Type 0
IsAftermathOf x forlopp done chains a = IsAftermath x forlopp done.outcome done.chain chains a

-- each store of a list of touches is of a word that may be written
abbrev pub MayStore : (ℕ → Bool) → List Touch → Type 0
MayStore may [] = Unit {0}
MayStore may (Load w v ∷ ts) = MayStore may ts
MayStore may (Store w v ∷ ts) = (may w ≡ true) × MayStore may ts
