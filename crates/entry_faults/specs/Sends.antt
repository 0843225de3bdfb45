-- Statements that send a signal to a buffer or out of the exchange.
use Rattle.std.specs.Prelude.{◌≡◌, ℕ, Bool, true, false, Option, Some, None, slice_get}
use Rattle.exchange_model.specs.declared.exchange.Exchange.{Exchange}
use Rattle.exchange_model.specs.declared.signal.SignalKind.{SignalKind}
use Rattle.exchange_model.specs.declared.signal.SignalKind.TheVariants.{Buffered, Outside}
use Rattle.exchange_model.specs.declared.stmt.StmtKind.{out-StmtKind}
use Rattle.exchange_model.specs.declared.stmt.StmtKind.TheOpen as stmt
use Rattle.source_meaning.specs.Named.{Layer}
use Rattle.flow_points.specs.Facts.{Facts, Reached}
use Rattle.flow_table.specs.declared.place.PlaceAt.{PlaceAt}

abbrev pub leaves : SignalKind → Bool
leaves (Buffered name level count) = true
leaves (Outside name count) = true
leaves _ = false

abbrev pub joins_outbox : Option SignalKind → Bool
joins_outbox None = false
joins_outbox (Some kind) = leaves kind

abbrev pub posts : Exchange → Layer → Bool
posts x (stmt.Send signal to values fresh) = joins_outbox (slice_get x.signals signal)
posts x _ = false

-- a statement is reached and sends such a signal
pub record PostsHere (x : Exchange) (P : Facts) (e : ℕ) (at : PlaceAt) : Type 0 where
  pub posting : posts x (out-StmtKind at.kind.now) ≡ true
  pub reached : Reached P e at.point

abbrev pub counts : Bool → ℕ
counts true = 1
counts false = 0
