-- How much code stands again for each field of a file, or for each receiver of a signal: FREE
-- writes each field by two instructions of its own, and a reference that is held is compared with
-- that of each receiver. All other code is as long as what it is made of, whatever else the
-- exchange has.
use Rattle.std.specs.Prelude.{ℕ, ◌+◌, List, [], length, map, slice_get, Option, Some}
use Rattle.machine_code.specs.declared.op.Op.{Op}
use Rattle.exchange_model.specs.declared.exchange.Exchange.{Exchange}
use Rattle.exchange_model.specs.declared.block.Block.{Block}
use Rattle.exchange_model.specs.declared.expr.Expr.{Expr}
use Rattle.exchange_model.specs.declared.stmt.Receiver.{Receiver}
use Rattle.exchange_model.specs.declared.stmt.Receiver.TheVariants.{Held}
use Rattle.exchange_model.specs.declared.stmt.Stmt.{Stmt, fold-Stmt}
use Rattle.exchange_model.specs.declared.stmt.When.{When, fold-When}
use Rattle.exchange_model.specs.declared.stmt.StmtKind.{StmtKind, StmtKind-F, fold-StmtKind}
use Rattle.exchange_model.specs.declared.stmt.StmtKind.{map-StmtKind}
use Rattle.exchange_model.specs.declared.stmt.StmtKind.TheOpen.{If, Case, On, Send, Transfer, Free}
use Rattle.exchange_model.specs.Inside.{total}
use Rattle.stmt_code.specs.StmtCode.{Places, each_receiver, look_first}
use Rattle.stmt_code.specs.RecordCode.{free_code}
use Rattle.stmt_code.specs.Whole.{no_table, places_of}
use Rattle.code_gen.specs.Receivers.{arm_code}
use Rattle.code_gen.specs.declared.receivers.Arm.TheVariants as arm

-- some places of the exchange: how long code is depends neither on the block nor on the addresses
-- in it
abbrev pub some_places : Exchange → Places
some_places x = places_of x no_table 0

-- the code that looks at the reference before these values, and that which chooses the receiver
abbrev pub choice_length : Option Receiver → List ℕ → List Expr → (ℕ → List Op) → ℕ
choice_length (Some (Held h)) receivers values arm =
    length (look_first receivers values 0) + length (each_receiver receivers arm 0)
choice_length _ receivers values arm = 0

-- of a statement, from what is told of those in it
abbrev pub layer_unrolled : Places → StmtKind-F ℕ ℕ ℕ → ℕ
layer_unrolled pl (If cond yes_part no_part) = total yes_part + total no_part
layer_unrolled pl (Case value whens otherwise) = total whens + total otherwise
layer_unrolled pl (On temp from upto body) = total body
layer_unrolled pl (Send signal to values fresh) =
    choice_length to (pl.receivers signal) values (arm_code (arm.Send signal fresh) pl)
layer_unrolled pl (Transfer signal to) =
    choice_length to (pl.receivers signal) [] (arm_code (arm.Transfer signal) pl)
layer_unrolled pl (Free temp file) = length (free_code (slice_get pl.site.files file) file temp)
layer_unrolled pl _ = 0

unfoldable pub kind_unrolled : Places → StmtKind → ℕ
kind_unrolled pl = fold-StmtKind ℕ ℕ ℕ (layer_unrolled pl) (λ s. s.kind) (λ w. total w.body)

unfoldable pub stmt_unrolled : Places → Stmt → ℕ
stmt_unrolled pl = fold-Stmt ℕ ℕ ℕ (layer_unrolled pl) (λ s. s.kind) (λ w. total w.body)

unfoldable pub when_unrolled : Places → When → ℕ
when_unrolled pl = fold-When ℕ ℕ ℕ (layer_unrolled pl) (λ s. s.kind) (λ w. total w.body)

abbrev pub text_unrolled : Places → List Stmt → ℕ
text_unrolled pl text = total (map (stmt_unrolled pl) text)

abbrev pub opened_unrolled : Places → StmtKind-F StmtKind Stmt When → ℕ
opened_unrolled pl l = layer_unrolled pl (map-StmtKind StmtKind Stmt When ℕ ℕ ℕ (kind_unrolled pl)
    (stmt_unrolled pl) (when_unrolled pl) l)

abbrev pub block_unrolled : Exchange → Block → ℕ
block_unrolled x k = text_unrolled (some_places x) k.body

-- of all blocks
abbrev pub unrolled_length : Exchange → ℕ
unrolled_length x = total (map (block_unrolled x) x.blocks)
