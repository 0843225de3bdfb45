-- The levels to which statements send.
use Rattle.std.specs.Prelude.{◌≡◌, ℕ, nat_eq, Bool, List, [], ◌∷◌, Option, Some, None, slice_get}
use Rattle.std.specs.List.{filter, list_any}
use Rattle.plex_num.specs.declared.level.Level.{Level}
use Rattle.plex_num.specs.declared.level.Level.TheVariants.{A, B, C, D}
use Rattle.exchange_model.specs.declared.exchange.Exchange.{Exchange}
use Rattle.exchange_model.specs.declared.signal.SignalKind.{SignalKind}
use Rattle.exchange_model.specs.declared.signal.SignalKind.TheVariants.{Buffered}
use Rattle.exchange_model.specs.declared.stmt.StmtKind.TheOpen as stmt
use Rattle.source_meaning.specs.Named.{Layer}
use Rattle.flow_points.specs.Facts.{Facts, Reached}
use Rattle.flow_points.specs.Places.{Place}
use Rattle.entry_summary.specs.Orders.{level_number}

-- the level of a buffered signal
abbrev pub buffer_level : Option SignalKind → Option Level
buffer_level (Some (Buffered name level count)) = Some level
buffer_level _ = None

-- the level to which a statement sends
abbrev pub sent_level : Exchange → Layer → Option Level
sent_level x (stmt.Send signal to values fresh) = buffer_level (slice_get x.signals signal)
sent_level x _ = None

-- a statement is reached in a job of the entry, and sends to this level
pub record HasLevel (x : Exchange) (P : Facts) (e : ℕ) (at : Place) (level : Level) : Type 0 where
  pub reached : Reached P e at.point
  pub sends : sent_level x at.layer ≡ Some level

-- one of these levels is this one
abbrev pub is_sent : List Level → Level → Bool
is_sent sent level = list_any (λ l. nat_eq (level_number l) (level_number level)) sent

-- those of all levels that are among these, from A on
abbrev pub in_order : List Level → List Level
in_order sent = filter (is_sent sent) (A ∷ B ∷ C ∷ D ∷ [])
