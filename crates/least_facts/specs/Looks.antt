-- How many looks a search may take.
use Rattle.std.specs.Prelude.{ℕ, ◌*◌, ◌<◌, ◌≤◌, List, length, Option, Some, None}
use Rattle.std.specs.List.{Contains}
use Rattle.std.specs.List.Sorted.{IsStrictlySortedBy}
use Rattle.flow_points.specs.declared.fact.Fact.{Fact}
use Rattle.flow_points.specs.Orders.{fact_order}
use Rattle.least_facts.specs.declared.looks.Looked.{Looked}
use Rattle.least_facts.specs.declared.looks.Looked.TheVariants.{Whole, Over}
use Rattle.least_facts.specs.declared.looks.TheConstants.{LOOKS_OF_FACT}

-- there is a bound, and so many looks are more
abbrev pub IsOver : Option ℕ → ℕ → Type 0
IsOver None looks = ⊥
IsOver (Some most) looks = most < looks

-- there are facts of this kind, each of them once, for so many looks
pub record HasFacts (P : Fact → Type 0) (looks : ℕ) : Type 0 where
  pub facts : List Fact
  pub rising : IsStrictlySortedBy fact_order facts
  pub each : (f : Fact) → Contains facts f → P f
  pub enough : looks ≤ LOOKS_OF_FACT * length facts

-- the bound was passed, and there are facts of this kind for that
abbrev pub IsOverBy : (Fact → Type 0) → Option ℕ → ℕ → Type 0
IsOverBy P most looks = IsOver most looks × HasFacts P looks

-- this is found, or the bound was passed, and there are facts of this kind for that
abbrev pub FindsWithin : (Fact → Type 0) → Option ℕ → Type 0 → Looked → Type 0
FindsWithin P most Found (Whole looks) = Found
FindsWithin P most Found (Over looks) = IsOverBy P most looks
