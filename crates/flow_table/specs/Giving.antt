-- Values that are listed, each of which some facts give, and all of which they give.
use Rattle.std.specs.Prelude.{◌≡◌, ℕ, ◌+◌, nat_lt, List, [], ◌∷◌, ◌++◌, if◌then◌else◌}
use Rattle.std.specs.List.{Contains}
use Rattle.plex_limits.specs.declared.limits.TheConstants.{MOST_CALLERS}
use Rattle.flow_points.specs.declared.fact.Fact.{Fact}
use Rattle.flow_points.specs.declared.fact.Slot.{Slot}
use Rattle.flow_points.specs.declared.flow.Passing.{Passing}
use Rattle.flow_points.specs.declared.flow.Source.{Source}
use Rattle.flow_points.specs.Facts.{Facts, SourceGives}
use Rattle.flow_points.specs.Sources.{source_of}
use Rattle.flow_points.specs.declared.fact.Value.{Value}
use Rattle.flow_points.specs.declared.fact.Value.TheVariants.{Arg, Const, Any}

-- exactly these values
pub record AreValues (P : Value → Type 0) (values : List Value) : Type 0 where
  pub each : (v : Value) → Contains values v → P v
  pub listed : (v : Value) → P v → Contains values v

-- one caller more than a number that leaves room for it
abbrev pub raised_one : Value → List Value
raised_one (Arg k) = []
raised_one (Const c) = (if nat_lt c MOST_CALLERS then Const (c + 1) ∷ [] else [])
raised_one Any = []

abbrev pub raised : List Value → List Value
raised [] = []
raised (v ∷ vs) = raised_one v ++ raised vs

-- a list that has exactly these facts more
pub record HasGiven (old new : List Fact) (G : Fact → Type 0) : Type 0 where
  pub added : List Fact
  pub is : new ≡ old ++ added
  pub each : (f : Fact) → Contains added f → G f
  pub listed : (f : Fact) → G f → Contains added f

-- a source before a point gives the fact to a slot before another point
pub record SlotGives (P : Facts) (e p : ℕ) (source : Source) (q : ℕ) (s : Slot) (f : Fact) : Type
    0 where
  pub entry : f.entry ≡ e
  pub point : f.point ≡ q
  pub slot : f.slot ≡ s
  pub gives : SourceGives P e p source f.value

-- so do the sources of a flow to one of these slots
pub record SlotsGive (P : Facts) (e p : ℕ) (how : Passing) (q : ℕ) (slots : List Slot)
    (f : Fact) : Type 0 where
  pub entry : f.entry ≡ e
  pub point : f.point ≡ q
  pub slot : Contains slots f.slot
  pub gives : SourceGives P e p (source_of how f.slot) f.value
