-- Lists that have more, where each item tells what it adds.
use Rattle.std.specs.Prelude.{◌⊎◌, ℕ, List}
use Rattle.std.specs.List.{Contains}
use Rattle.exchange_model.specs.declared.exchange.Exchange.{Exchange}
use Rattle.flow_points.specs.Facts.{Facts, Reached}
use Rattle.flow_points.specs.Places.{Place}
use Rattle.entry_summary.specs.declared.summary.Access.{Access}
use Rattle.entry_accesses.specs.Uses.{UseGives, layer_uses}

-- the new list has what the old one has, and exactly this besides
pub record Adds {A : Type 0} (old new : List A) (G : A → Type 0) : Type 0 where
  pub each : (a : A) → Contains new a → Contains old a ⊎ G a
  pub kept : (a : A) → Contains old a → Contains new a
  pub added : (a : A) → G a → Contains new a

-- one of these items gives it
pub record OneGives {A B : Type 0} (G : B → A → Type 0) (items : List B) (a : A) : Type 0 where
  pub item : B
  pub one : Contains items item
  pub gives : G item a

-- a statement is reached in a job of the entry, and what it does gives this access
pub record HasAccess (x : Exchange) (P : Facts) (e : ℕ) (at : Place) (a : Access) : Type 0 where
  pub reached : Reached P e at.point
  pub access : OneGives (UseGives P e at.point) (layer_uses x at.block at.layer) a
