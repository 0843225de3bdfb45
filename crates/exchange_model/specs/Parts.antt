-- What contracts see of an exchange.
use Rattle.std.specs.Prelude.{ℕ, List}
use Rattle.exchange_model.specs.declared.signal.SignalKind.{SignalKind}
use Rattle.exchange_model.specs.declared.block.Block.{Block}
use Rattle.exchange_model.specs.declared.entry.Entry.{Entry}
use Rattle.exchange_model.specs.declared.entry.PointInfo.{PointInfo}

pub record Parts : Type 0 where
  pub signals : List SignalKind
  pub blocks : List Block
  pub entries : List Entry
  pub points : List PointInfo
  pub cells : ℕ

-- an exchange of these parts
abbrev pub parts : List SignalKind → List Block → List Entry → List PointInfo → ℕ → Parts
parts signals blocks entries points cells =
    record { signals = signals; blocks = blocks; entries = entries; points = points; cells = cells }
