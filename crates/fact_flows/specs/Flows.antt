-- What single flows give, from a point that is reached.
use Rattle.std.specs.Prelude.{◌≡◌, ℕ, List}
use Rattle.std.specs.List.{Contains}
use Rattle.exchange_model.specs.declared.exchange.Exchange.{Exchange}
use Rattle.flow_points.specs.declared.fact.Fact.{Fact}
use Rattle.flow_points.specs.declared.fact.Slot.{Slot}
use Rattle.flow_points.specs.declared.flow.Passing.{Passing}
use Rattle.flow_points.specs.Facts.{Facts, Guarded, SourceGives}
use Rattle.flow_points.specs.Slots.{HasSlot}
use Rattle.flow_points.specs.Sources.{source_of, start_source}
use Rattle.flow_table.specs.declared.way.Way.{Way}
use Rattle.flow_table.specs.Giving.{SlotGives}
use Rattle.flow_table.specs.Ways.{IsWayEnd}

-- one of these gives the fact
pub record OneGives {A : Type 0} (G : A → Fact → Type 0) (xs : List A) (f : Fact) : Type 0 where
  pub one : A
  pub among : Contains xs one
  pub gives : G one f

-- the flow to a point does
pub record FlowsTo (x : Exchange) (P : Facts) (e p : ℕ) (how : Passing) (q : ℕ) (f : Fact) : Type
    0 where
  pub entry : f.entry ≡ e
  pub point : f.point ≡ q
  pub guarded : Guarded P e p q how
  pub slot : HasSlot x q f.slot
  pub gives : SourceGives P e p (source_of how f.slot) f.value

-- the flow to an end of a way does
pub record WayGives (x : Exchange) (P : Facts) (e p : ℕ) (w : Way) (f : Fact) : Type 0 where
  pub end : ℕ
  pub ends : IsWayEnd x w.ends end
  pub flows : FlowsTo x P e p w.how end f

-- the start of a job, whose signal has so many values, gives the fact to a slot
abbrev pub StartsIn : Facts → ℕ → ℕ → ℕ → Slot → Fact → Type 0
StartsIn P e p count s f = SlotGives P e p (start_source count s) p s f
