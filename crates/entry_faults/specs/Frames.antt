-- What is left to look at where a search goes on.
use Rattle.std.specs.Prelude.{◌≡◌, ◌⊎◌, ℕ, Bool, false, List, [], ◌∷◌, Option, Some, None}
use Rattle.std.specs.List.{Contains}
use Rattle.flow_table.specs.declared.row.FlowTable.{FlowTable}
use Rattle.flow_table.specs.declared.way.Way.{Way}
use Rattle.entry_faults.specs.declared.frame.Frame.{Frame}
use Rattle.entry_faults.specs.declared.mark.Mark.{Mark}
use Rattle.entry_faults.specs.declared.mark.Mark.TheVariants.{Closed}
use Rattle.entry_faults.specs.Marks.{mark_at, is_closed}
use Rattle.entry_faults.specs.Circles.{LeadTo, ways_at}

abbrev pub first : List ℕ → Option ℕ
first [] = None
first (q ∷ qs) = Some q

-- the point is one of these, or one of these ways leads to it
abbrev pub Among : FlowTable → List ℕ → List Way → ℕ → Type 0
Among t ends ways q = Contains ends q ⊎ LeadTo t ways q

-- it is left to look at
abbrev pub Left : FlowTable → Frame → ℕ → Type 0
Left t f q = Among t f.ends.now f.ways.now q

-- all that a point leads to is left
pub record Begins (t : FlowTable) (p : ℕ) (f : Frame) : Type 0 where
  pub point : f.point ≡ p
  pub to : (q : ℕ) → LeadTo t (ways_at t p) q → Left t f q
  pub from : (q : ℕ) → Left t f q → LeadTo t (ways_at t p) q

-- the first of these points is not closed
abbrev pub IsUnclosed : List Bool → List Mark → List ℕ → Type 0
IsUnclosed reached marks [] = Unit {0}
IsUnclosed reached marks (q ∷ qs) = is_closed (mark_at reached marks q) ≡ false

-- of these points some that are closed are left out
pub record Passes (reached : List Bool) (marks : List Mark) (ends rest : List ℕ) : Type 0 where
  pub to : (q : ℕ) → Contains ends q → (mark_at reached marks q ≡ Closed) ⊎ Contains rest q
  pub from : (q : ℕ) → Contains rest q → Contains ends q
  pub first : IsUnclosed reached marks rest

-- the first point is not closed, and where there is none nothing is left
abbrev pub Stops : FlowTable → List Bool → List Mark → List ℕ → List Way → Type 0
Stops t reached marks [] ways = (q : ℕ) → LeadTo t ways q → ⊥
Stops t reached marks (q ∷ qs) ways = is_closed (mark_at reached marks q) ≡ false

-- the same of a point that a search goes on from
pub record Moves (t : FlowTable) (reached : List Bool) (marks : List Mark) (f g : Frame) : Type
    0 where
  pub point : g.point ≡ f.point
  pub to : (q : ℕ) → Left t f q → (mark_at reached marks q ≡ Closed) ⊎ Left t g q
  pub from : (q : ℕ) → Left t g q → Left t f q
  pub stops : Stops t reached marks g.ends.now g.ways.now
