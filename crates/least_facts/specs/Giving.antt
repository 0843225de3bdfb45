-- What one flow gives to the rows.
use Rattle.std.specs.Prelude.{◌≡◌, ◌⊎◌, ◌↔◌, ℕ, ◌<◌, Bool, List}
use Rattle.std.specs.Bool.{MatchBool}
use Rattle.std.specs.List.{Contains}
use Rattle.exchange_model.specs.declared.exchange.Exchange.{Exchange}
use Rattle.flow_points.specs.declared.fact.Fact.{Fact}
use Rattle.flow_points.specs.declared.fact.Slot.{Slot}
use Rattle.flow_points.specs.declared.fact.Value.{Value}
use Rattle.flow_points.specs.declared.flow.Passing.{Passing}
use Rattle.flow_points.specs.Facts.{Guarded, IsLeast}
use Rattle.flow_table.specs.declared.row.FlowTable.{FlowTable}
use Rattle.flow_table.specs.Giving.{SlotsGive}
use Rattle.flow_table.specs.Small.{IsSmall}
use Rattle.fact_flows.specs.Flows.{FlowsTo}
use Rattle.fact_flows.specs.Slots.{AreSlots}
use Rattle.fact_rows.specs.Known.{Knows, BitRows, missing, slots_of}
use Rattle.least_facts.specs.Fit.{HowFits}

-- exactly these facts come to be known, and where one of them is new, fewer are missing
pub record Gives (old : BitRows) (G : Fact → Type 0) (grown : Bool) (new : BitRows) : Type 0 where
  pub entry : new.entry ≡ old.entry
  pub slots : new.marks.slots ≡ old.marks.slots
  pub knows : (f : Fact) → Knows new f ↔ (G f ⊎ Knows old f)
  pub counted : MatchBool grown (missing new < missing old) (new ≡ old)

-- a least fact of the entry
pub record IsOwnLeast (x : Exchange) (e : ℕ) (f : Fact) : Type 0 where
  pub entry : f.entry ≡ e
  pub least : IsLeast x f

-- one of these values of a slot
pub record OfValues (e q : ℕ) (s : Slot) (values : List Value) (f : Fact) : Type 0 where
  pub entry : f.entry ≡ e
  pub point : f.point ≡ q
  pub slot : f.slot ≡ s
  pub value : Contains values f.value

-- a point gets some least facts, and where one of them is new, fewer are missing
pub record Fills (x : Exchange) (q : ℕ) (old : BitRows) (grown : Bool) (new : BitRows) : Type
    0 where
  pub entry : new.entry ≡ old.entry
  pub slots : new.marks.slots ≡ old.marks.slots
  pub more : (f : Fact) → Knows old f → Knows new f
  pub each : (f : Fact) → Knows new f → Knows old f ⊎ ((f.point ≡ q) × IsLeast x f)
  pub counted : MatchBool grown (missing new < missing old) (new ≡ old)

-- what goes along so from a point to another one is least where it comes of least facts, and has
-- numbers
pub record IsGood (x : Exchange) (e p : ℕ) (how : Passing) (q : ℕ) : Type 0 where
  pub least : (f : Fact) → FlowsTo x (IsLeast x) e p how q f → IsLeast x f
  pub fits : HowFits how
  pub small : IsSmall how

-- rows of least facts, from which something goes along so
pub record CanFlow (x : Exchange) (t : FlowTable) (e p : ℕ) (how : Passing) (q : ℕ)
    (k : BitRows) : Type 0 where
  pub of_entry : k.entry ≡ e
  pub of_slots : k.marks.slots ≡ slots_of t
  pub least : (f : Fact) → Knows k f → IsLeast x f
  pub good : IsGood x e p how q
  pub guarded : Guarded (Knows k) e p q how

-- a point gets all that goes along to these slots
pub record FillsSlots (x : Exchange) (e p : ℕ) (how : Passing) (q : ℕ) (slots : List Slot)
    (old : BitRows) (grown : Bool) (new : BitRows) : Type 0 where
  pub fills : Fills x q old grown new
  pub all : (f : Fact) → SlotsGive (Knows old) e p how q slots f → Knows new f

-- so it gets all that goes along to the slots before it
pub record FillsPoint (x : Exchange) (e p : ℕ) (how : Passing) (q : ℕ) (old : BitRows)
    (grown : Bool) (new : BitRows) : Type 0 where
  pub slots : List Slot
  pub all : AreSlots x q slots
  pub fills : FillsSlots x e p how q slots old grown new
