-- How large an exchange is.
use Rattle.std.specs.Prelude.{◌≡◌, ℕ, Bool, true, false, List, length, Option, Some, None}
use Rattle.std.specs.List.{count_by}
use Rattle.exchange_model.specs.declared.exchange.Exchange.{Exchange}
use Rattle.exchange_model.specs.declared.stmt.Receiver.{Receiver}
use Rattle.exchange_model.specs.declared.stmt.Receiver.TheVariants as receiver
use Rattle.exchange_model.specs.declared.stmt.StmtKind.TheOpen as stmt
use Rattle.source_meaning.specs.Named.{Layer}
use Rattle.flow_points.specs.Places.{Place}
use Rattle.flow_table.specs.Texts.{ArePlaces}
use Rattle.certificate_text.specs.declared.certificate.Shape.{Shape}

abbrev pub is_held : Option Receiver → Bool
is_held None = false
is_held (Some (receiver.Block b)) = false
is_held (Some (receiver.Held h)) = true

-- a SEND or TRANSFER with a held reference
abbrev pub refers : Layer → Bool
refers (stmt.Send signal to values fresh) = is_held to
refers (stmt.Transfer signal to) = is_held to
refers _ = false

-- how many of these do
abbrev pub referring : List Place → ℕ
referring places = count_by (λ (p : Place). refers p.layer) places

-- so many of all statements of the exchange are such
pub record HasReferences (x : Exchange) (n : ℕ) : Type 0 where
  pub places : List Place
  pub all : ArePlaces x places
  pub so : n ≡ referring places

-- the shape of the exchange
pub record IsShapeOf (x : Exchange) (s : Shape) : Type 0 where
  pub signals : s.signals ≡ length x.signals
  pub blocks : s.blocks ≡ length x.blocks
  pub points : s.points ≡ length x.points
  pub cells : s.cells ≡ x.cells
  pub entries : s.entries ≡ length x.entries
  pub references : HasReferences x s.references
