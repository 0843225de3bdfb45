-- Facts that an exchange has.
use Rattle.std.specs.Prelude.{ℕ, ◌<◌, length}
use Rattle.exchange_model.specs.declared.exchange.Exchange.{Exchange}
use Rattle.source_meaning.specs.Valid.{entry_count}
use Rattle.flow_points.specs.declared.fact.Fact.{Fact}
use Rattle.flow_points.specs.declared.fact.Value.{Value}
use Rattle.flow_points.specs.declared.fact.Value.TheVariants.{Arg, Const, Any}
use Rattle.flow_points.specs.Slots.{HasSlot}

-- a value that a job of the entry may start with, or a number, or any number
abbrev pub IsValueOfEntry : Exchange → ℕ → Value → Type 0
IsValueOfEntry x e (Arg k) = k < entry_count x e
IsValueOfEntry x e (Const c) = Unit {0}
IsValueOfEntry x e Any = Unit {0}

-- a fact is of the exchange where its entry, its point and its slot are there, and its value is one
-- of the entry; any other is strange
pub record IsOfExchange (x : Exchange) (f : Fact) : Type 0 where
  pub entry : f.entry < length x.entries
  pub slot : HasSlot x f.point f.slot
  pub value : IsValueOfEntry x f.entry f.value
