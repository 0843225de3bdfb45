-- Where code is made: a block of an exchange, with the layout and the addresses.
use Rattle.std.specs.Prelude.{◌≡◌, ℕ, ◌+◌, ◌^◌, ◌<◌, ◌≤◌, List, length, slice_get, Option, Some}
use Rattle.std.specs.Prelude.{None}
use Rattle.machine_code.specs.declared.op.Op.{Op}
use Rattle.exchange_model.specs.declared.block.Block.{Block}
use Rattle.exchange_model.specs.declared.block.FilePlace.{FilePlace}
use Rattle.exchange_model.specs.declared.expr.Expr.{Expr}
use Rattle.exchange_model.specs.declared.expr.Cond.{Cond}
use Rattle.exchange_model.specs.declared.stmt.Holder.{Holder}
use Rattle.exchange_model.specs.declared.stmt.Receiver.{Receiver}
use Rattle.exchange_model.specs.declared.stmt.Receiver.TheVariants as receiver
use Rattle.exchange_model.specs.declared.stmt.Stmt.{Stmt}
use Rattle.exchange_model.specs.declared.stmt.When.{When}
use Rattle.exchange_model.specs.declared.stmt.StmtKind.{StmtKind, StmtKind-F}
use Rattle.plex_limits.specs.declared.limits.TheConstants.{MOST_BRACKETS}
use Rattle.exchange_model.specs.Cells.{Placed, record_cells}
use Rattle.exchange_model.specs.Fits.{ExprFits, ExprsFit, IsField, IsHolder}
use Rattle.exchange_model.specs.Inside.{bracket_depth, cond_exprs}
use Rattle.exchange_model.specs.Kept.{IsExchange, scope_of}
use Rattle.store_layout.specs.Laid.{IsLayout}
use Rattle.stmt_code.specs.StmtCode.{Places, opened}
use Rattle.stmt_code.specs.Whole.{places_of}
use Rattle.stmt_code.specs.Within.{ListIn, LayerIn, ChoicesIn}
use Rattle.code_gen.specs.declared.setting.Setting.{Setting}
use Rattle.code_gen.specs.declared.setting.Spot.{Spot}
use Rattle.code_gen.specs.Addresses.{table_in}

-- the places by which the code of the block is made
unfoldable pub places_in : Setting → Places
places_in s = places_of s.exchange.now (table_in s.exchange.now s.addresses.now) s.block

-- the setting is that of an exchange
pub record IsSetting (s : Setting) : Type 0 where
  pub kept : IsExchange s.exchange.now
  pub layout : IsLayout s.exchange.now.blocks s.layout.now

-- a file as its place tells it
abbrev pub placed_of : FilePlace → Placed
placed_of p = record { block = p.block; file = p.file.now; first = p.first }

-- the file of this number; the cells of its first record are numbers of 32 bits
pub record IsFileIn (s : Setting) (number : ℕ) (p : Placed) : Type 0 where
  pub there : slice_get (places_in s).site.files number ≡ Some p
  pub cells : p.first + record_cells p.file < 2 ^ 32

-- where a statement's code stands: its point, the loops around it, and its address
abbrev pub code_in : StmtKind-F StmtKind Stmt When → Setting → Spot → List Op
code_in l s spot = opened l (places_in s) spot.point spot.loops spot.start

-- an expression, a condition, a variable, and a field of a file, of the block
pub record IsValueIn (s : Setting) (e : Expr) : Type 0 where
  pub setting : IsSetting s
  pub block : Block
  pub there : slice_get s.exchange.now.blocks s.block ≡ Some block
  pub fits : ExprFits (scope_of s.exchange.now s.block block) e
  pub shallow : bracket_depth e ≤ MOST_BRACKETS

pub record IsTestIn (s : Setting) (c : Cond) : Type 0 where
  pub setting : IsSetting s
  pub block : Block
  pub there : slice_get s.exchange.now.blocks s.block ≡ Some block
  pub fits : ExprsFit (scope_of s.exchange.now s.block block) (cond_exprs c)

pub record IsVariableIn (s : Setting) (variable : ℕ) : Type 0 where
  pub setting : IsSetting s
  pub block : Block
  pub there : slice_get s.exchange.now.blocks s.block ≡ Some block
  pub within : variable < length block.variables

pub record IsFieldIn (s : Setting) (file field : ℕ) : Type 0 where
  pub setting : IsSetting s
  pub block : Block
  pub fits : IsField (scope_of s.exchange.now s.block block) file field

-- a holder of the block, and a receiver whose reference is held by one of it
pub record IsHolderIn (s : Setting) (h : Holder) : Type 0 where
  pub setting : IsSetting s
  pub block : Block
  pub there : slice_get s.exchange.now.blocks s.block ≡ Some block
  pub fits : IsHolder (scope_of s.exchange.now s.block block) h

abbrev pub IsReceiverIn : Setting → Receiver → Type 0
IsReceiverIn s (receiver.Block b) = Unit {0}
IsReceiverIn s (receiver.Held h) = IsHolderIn s h

abbrev pub IsReachedIn : Setting → Option Receiver → Type 0
IsReachedIn s None = Unit {0}
IsReachedIn s (Some to) = IsReceiverIn s to

-- statements, and one statement, of the block, with so many loops around them
pub record AreIn (s : Setting) (loops : ℕ) (ss : List Stmt) : Type 0 where
  pub setting : IsSetting s
  pub inside : ListIn s.exchange.now s.block loops ss

pub record IsIn (s : Setting) (loops : ℕ) (l : StmtKind-F StmtKind Stmt When) : Type 0 where
  pub setting : IsSetting s
  pub inside : LayerIn s.exchange.now s.block loops l

pub record AreChoicesIn (s : Setting) (loops : ℕ) (ws : List When) : Type 0 where
  pub setting : IsSetting s
  pub inside : ChoicesIn s.exchange.now s.block loops ws
