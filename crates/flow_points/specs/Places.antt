-- The statements of an exchange, each where it stands: in which block, at which point, and before
-- what.
--
-- The text is read as the meaning of a job reads it: statements inside others are statements of the
-- text, what follows a statement is the next one past ENTERs, the last statement of an ON is
-- followed by the ON itself, and a label stands for the first statement after it that is no ENTER.
use Rattle.std.specs.Prelude.{◌≡◌, ℕ, Bool, true, false, List, ◌∷◌, drop, Option, Some, None}
use Rattle.std.specs.Prelude.{slice_get}
use Rattle.std.specs.Option.{option_map_or}
use Rattle.exchange_model.specs.declared.exchange.Exchange.{Exchange}
use Rattle.exchange_model.specs.declared.stmt.Receiver.{Receiver}
use Rattle.exchange_model.specs.declared.stmt.Receiver.TheVariants as receiver
use Rattle.exchange_model.specs.declared.stmt.Stmt.{Stmt}
use Rattle.exchange_model.specs.declared.stmt.StmtKind.{out-StmtKind}
use Rattle.exchange_model.specs.Fits.{retrieved}
use Rattle.source_meaning.specs.Config.{body_of, label_of, is_receiver, from_signal}
use Rattle.source_meaning.specs.Named.{Layer}
use Rattle.source_meaning.specs.Rests.{IsRow, first_point, head_point}

-- a statement by its block, its point, its layer, and the point of what follows it when nothing
-- jumps
pub record Place : Type 0 where
  pub block : ℕ
  pub point : ℕ
  pub layer : Layer
  pub next : Option ℕ

abbrev pub place_of : ℕ → Stmt → Option ℕ → Place
place_of b s next = record { block = b; point = s.point; layer = out-StmtKind s.kind; next = next }

-- a statement of the exchange, at whatever depth
pub record IsPlace (x : Exchange) (p : Place) : Type 0 where
  pub stmt : Stmt
  pub list : List Stmt
  pub end : Option ℕ
  pub row : IsRow x p.block (stmt ∷ list) end
  pub is : p ≡ place_of p.block stmt (first_point list end)

-- a statement of the exchange, at this point
pub record StandsAt (x : Exchange) (point : ℕ) (p : Place) : Type 0 where
  pub place : IsPlace x p
  pub here : p.point ≡ point

-- the point that a label of a block stands for
abbrev pub label_point : Exchange → ℕ → ℕ → Option ℕ
label_point x b label = first_point (drop (label_of x b label) (body_of x b)) None

-- the point of the ENTER of a signal in a block
abbrev pub enter_point : Exchange → ℕ → ℕ → Option ℕ
enter_point x b signal = head_point (from_signal x b signal)

-- the block of this number receives the signal
abbrev pub receives : Exchange → ℕ → ℕ → Bool
receives x signal b = option_map_or (is_receiver signal) (slice_get x.blocks b) false

-- a signal may go to the block: to the one that is named, and by a held reference to each that
-- receives it
abbrev pub MayReceive : Exchange → ℕ → Option Receiver → ℕ → Type 0
MayReceive x signal None b = ⊥
MayReceive x signal (Some (receiver.Block named)) b = b ≡ named
MayReceive x signal (Some (receiver.Held holder)) b = receives x signal b ≡ true

-- a RETRIEVE of the answer stands at the point
pub record IsRetrieveAt (x : Exchange) (point answer : ℕ) : Type 0 where
  pub place : Place
  pub stands : StandsAt x point place
  pub retrieves : retrieved place.layer ≡ Some answer
