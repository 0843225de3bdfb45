-- The code of an exchange: its blocks one after the other, and the addresses of labels and ENTERs.
--
-- How long a statement's code is depends neither on where it stands nor on the addresses in it. So
-- the addresses are told by the code that is made with a table of zeros, and the table then made is
-- right for the code that is made with it.
use Rattle.std.specs.Prelude.{ℕ, zero, suc, ◌+◌, min, List, [], ◌∷◌, ◌++◌, length, map, take, drop}
use Rattle.std.specs.Prelude.{if◌then◌else◌}
use Rattle.machine_code.specs.declared.op.Op.{Op}
use Rattle.machine_code.specs.declared.op.Op.TheVariants as op
use Rattle.exchange_model.specs.declared.exchange.Exchange.{Exchange}
use Rattle.exchange_model.specs.declared.block.Block.{Block}
use Rattle.exchange_model.specs.declared.entry.Entry.{Entry}
use Rattle.exchange_model.specs.declared.stmt.Stmt.{Stmt}
use Rattle.exchange_model.specs.declared.stmt.StmtKind.{out-StmtKind}
use Rattle.source_meaning.specs.Config.{base_of, files_of, body_of, label_of, enter_place}
use Rattle.source_meaning.specs.Config.{is_receiver, entry_number}
use Rattle.exchange_model.specs.Kept.{is_enter}
use Rattle.source_meaning.specs.Changes.{variable_width}
use Rattle.stmt_code.specs.StmtCode.{Places, codes, stmt_code}

-- the addresses of labels, by block and label, and of ENTERs, by block and signal
pub record Table : Type 0 where
  pub label : ℕ → ℕ → ℕ
  pub enter : ℕ → ℕ → ℕ

-- those of these blocks that receive a signal, where the first of them has this number
abbrev pub receivers_from : ℕ → ℕ → List Block → List ℕ
receivers_from b signal [] = []
receivers_from b signal (k ∷ ks) =
    (if is_receiver signal k then b ∷ receivers_from (b + 1) signal ks
    else receivers_from (b + 1) signal ks)

abbrev pub places_of : Exchange → Table → ℕ → Places
places_of x t b = record {
  site = record { first = base_of x b; files = files_of x };
  width = variable_width x b;
  label = t.label b;
  enter = t.enter;
  entry = entry_number x;
  receivers = λ signal. receivers_from 0 signal x.blocks;
  signals = x.signals;
}

-- a block's code ends where no statement is left
abbrev pub block_code : Exchange → Table → ℕ → ℕ → List Op
block_code x t b a = codes (map stmt_code (body_of x b)) (places_of x t b) 0 a ++ op.End ∷ []

-- the first so many blocks
unfoldable pub code_upto : Exchange → Table → ℕ → List Op
code_upto x t zero = []
code_upto x t (suc n) = code_upto x t n ++ block_code x t n (length (code_upto x t n))

abbrev pub no_table : Table
no_table = record { label = λ b l. 0; enter = λ b s. 0 }

-- where a block begins, and past the last one where the blocks end
unfoldable pub start_of : Exchange → ℕ → ℕ
start_of x b = length (code_upto x no_table (min b (length x.blocks)))

-- where a place of a block's text stands
unfoldable pub place_at : Exchange → ℕ → ℕ → ℕ
place_at x b place = start_of x b + length (codes (map stmt_code (take place (body_of x b)))
    (places_of x no_table b) 0 (start_of x b))

-- behind the jump of an ENTER, and else where the blocks end
abbrev pub behind_enter : List Stmt → ℕ → ℕ → ℕ
behind_enter [] a end = end
behind_enter (s ∷ rest) a end = (if is_enter (out-StmtKind s.kind) then a + 1 else end)

abbrev pub enter_at : Exchange → ℕ → ℕ → ℕ
enter_at x b signal = behind_enter (drop (enter_place x b signal) (body_of x b))
    (place_at x b (enter_place x b signal)) (start_of x (length x.blocks))

abbrev pub table_of : Exchange → Table
table_of x = record { label = λ b l. place_at x b (label_of x b l); enter = enter_at x }

-- the blocks, and an end behind them
unfoldable pub whole_code : Exchange → List Op
whole_code x = code_upto x (table_of x) (length x.blocks) ++ op.End ∷ []

-- the address of each entry
abbrev pub entry_addresses : Exchange → List ℕ
entry_addresses x = map (λ (e : Entry). enter_at x e.block e.signal) x.entries
