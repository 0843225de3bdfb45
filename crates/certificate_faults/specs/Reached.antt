-- The points that are reached, of each at least one fact.
use Rattle.std.specs.Prelude.{◌≡◌, ◌⊎◌, ℕ, List, [], ◌∷◌, ◌++◌, Contains, Option, Some, None}
use Rattle.flow_points.specs.declared.fact.Fact.{Fact}
use Rattle.flow_points.specs.declared.fact.Slot.TheVariants.{Depth}
use Rattle.flow_points.specs.Facts.{Facts, Reached}

-- one of the facts is of the entry and the point
pub record HasPoint (facts : List Fact) (e p : ℕ) : Type 0 where
  pub one : Fact
  pub among : Contains facts one
  pub entry : one.entry ≡ e
  pub point : one.point ≡ p

-- one is, of each point that is reached in jobs of an entry
abbrev pub CoverReached : Facts → List Fact → Type 0
CoverReached P facts = (e p : ℕ) → Reached P e p → HasPoint facts e p

-- one is, of each point that one of these facts reaches
pub record AreReached (facts reached : List Fact) : Type 0 where
  pub each : (f : Fact) → Contains facts f → f.slot ≡ Depth → HasPoint reached f.entry f.point

-- it is of the point and of the entry of this one
abbrev pub IsOfPoint : Option Fact → Fact → Type 0
IsOfPoint None f = ⊥
IsOfPoint (Some d) f = (d.entry ≡ f.entry) × (d.point ≡ f.point)

-- a fact that reaches a point is listed, unless the last one of the list, which is kept beside it,
-- is of the point
abbrev pub IsListed : Option Fact → Fact → List Fact → List Fact → Option Fact → Type 0
IsListed last f old new kept =
    ((f.slot ≡ Depth → IsOfPoint last f) × (new ≡ old) × (kept ≡ last))
    ⊎ ((new ≡ old ++ f ∷ []) × (kept ≡ Some f))
