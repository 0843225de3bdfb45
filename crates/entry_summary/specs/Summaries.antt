-- The summary of an entry.
use Rattle.std.specs.Prelude.{◌≡◌, ◌↔◌, ℕ, Bool, true, List, Option, Some, slice_get}
use Rattle.std.specs.List.{Contains}
use Rattle.plex_num.specs.declared.level.Level.{Level}
use Rattle.exchange_model.specs.declared.exchange.Exchange.{Exchange}
use Rattle.exchange_model.specs.declared.expr.Expr.{Expr}
use Rattle.exchange_model.specs.declared.signal.SignalKind.TheVariants.{Buffered}
use Rattle.exchange_model.specs.declared.stmt.Receiver.{Receiver}
use Rattle.exchange_model.specs.declared.stmt.StmtKind.TheOpen as stmt
use Rattle.exchange_model.specs.Names.{level_of}
use Rattle.source_meaning.specs.Named.{Layer}
use Rattle.entry_summary.specs.declared.summary.Access.{Access}
use Rattle.entry_summary.specs.declared.summary.Summary.{Summary}
use Rattle.flow_points.specs.Places.{Place, StandsAt}
use Rattle.flow_points.specs.Facts.{Facts, Reached}
use Rattle.entry_summary.specs.Accesses.{IsAccess}
use Rattle.entry_summary.specs.Faults.{MayFault}

-- a statement sends to a buffer
pub data SendsTo (x : Exchange) : Layer → Level → Type 0 where
  sends : (signal : ℕ) (to : Option Receiver) (values : List Expr) (fresh : Bool) (name : List ℕ)
      (level : Level) (count : ℕ)
      → slice_get x.signals signal ≡ Some (Buffered name level count)
      → SendsTo x (stmt.Send signal to values fresh) level

-- a job of the entry may reach a statement that sends to the buffer of the level
pub record MaySendTo (x : Exchange) (P : Facts) (e : ℕ) (level : Level) : Type 0 where
  pub at : Place
  pub point : ℕ
  pub stands : StandsAt x point at
  pub reached : Reached P e point
  pub sends : SendsTo x at.layer level

-- what these facts say of the jobs of an entry; a summary keeps its accesses and its levels in
-- order
pub record IsSummary (x : Exchange) (P : Facts) (e : ℕ) (s : Summary) : Type 0 where
  pub level : s.level ≡ level_of x e
  pub accesses : (a : Access) → Contains s.accesses a ↔ IsAccess x P e a
  pub levels : (l : Level) → Contains s.levels l ↔ MaySendTo x P e l
  pub fault : (s.fault ≡ true) ↔ MayFault x P e
