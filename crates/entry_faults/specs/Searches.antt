-- What is so at each moment of a search.
use Rattle.std.specs.Prelude.{◌≡◌, ◌⊎◌, ℕ, ◌<◌, Bool, true, false, List, [], ◌∷◌, ◌++◌, slice_set}
use Rattle.flow_table.specs.declared.row.FlowTable.{FlowTable}
use Rattle.entry_faults.specs.declared.frame.Frame.{Frame}
use Rattle.entry_faults.specs.declared.mark.Mark.{Mark}
use Rattle.entry_faults.specs.declared.mark.Mark.TheVariants.{New, Open, Closed}
use Rattle.entry_faults.specs.Marks.{mark_at, weight}
use Rattle.entry_faults.specs.Circles.{Leads, Route, Circles}
use Rattle.entry_faults.specs.Frames.{Left, Begins}

-- the search goes on from this point
abbrev pub IsOn : List Frame → ℕ → Type 0
IsOn [] p = ⊥
IsOn (f ∷ rest) p = (f.point ≡ p) ⊎ IsOn rest p

-- a point is open, and each point to which it leads is closed or left
pub record IsFrame (t : FlowTable) (reached : List Bool) (marks : List Mark) (f : Frame) : Type
    0 where
  pub is_open : mark_at reached marks f.point ≡ Open
  pub to : (q : ℕ) → Leads t reached f.point q → (mark_at reached marks q ≡ Closed) ⊎ Left t f q
  pub from : (q : ℕ) → Left t f q → Leads t reached f.point q

-- the last of these points leads to this one
abbrev pub LedFrom : FlowTable → List Bool → List Frame → ℕ → Type 0
LedFrom t reached [] p = Unit {0}
LedFrom t reached (g ∷ rest) p = Leads t reached g.point p

-- the last point that a search goes on from is none of those before it, and the last of them leads
-- to it
pub record IsLast (t : FlowTable) (reached : List Bool) (marks : List Mark) (f : Frame)
    (rest : List Frame) : Type 0 where
  pub frame : IsFrame t reached marks f
  pub once : IsOn rest f.point → ⊥
  pub led : LedFrom t reached rest f.point

-- the points that a search goes on from, the last one first
abbrev pub IsPath : FlowTable → List Bool → List Mark → List Frame → Type 0
IsPath t reached marks [] = Unit {0}
IsPath t reached marks (f ∷ rest) = IsLast t reached marks f rest × IsPath t reached marks rest

-- from a closed point all is closed and none leads back to itself, and the open points are those
-- that the search goes on from
pub record Sound (t : FlowTable) (reached : List Bool) (marks : List Mark)
    (stack : List Frame) : Type 0 where
  pub closed : (p q : ℕ) → mark_at reached marks p ≡ Closed → Leads t reached p q
      → mark_at reached marks q ≡ Closed
  pub none : (p : ℕ) → mark_at reached marks p ≡ Closed → Route t reached p p → ⊥
  pub path : IsPath t reached marks stack
  pub opened : (p : ℕ) → mark_at reached marks p ≡ Open → IsOn stack p

-- a point is opened
pub record Opens (t : FlowTable) (p : ℕ) (old new : List Mark) (before after : List Frame) : Type
    0 where
  pub marks : new ≡ slice_set old p Open
  pub frame : Frame
  pub stack : after ≡ before ++ frame ∷ []
  pub begins : Begins t p frame

-- no point is new that was not
abbrev pub NoneNew : List Bool → List Mark → List Mark → Type 0
NoneNew reached old new =
    (p : ℕ) → (mark_at reached old p ≡ New → ⊥) → mark_at reached new p ≡ New → ⊥

-- a search goes on, with less to do
pub record GoesOn (t : FlowTable) (reached : List Bool) (old new : List Mark)
    (stack : List Frame) : Type 0 where
  pub sound : Sound t reached new stack
  pub less : weight new < weight old
  pub seen : NoneNew reached old new

abbrev pub Stepped : FlowTable → List Bool → List Mark → List Mark → List Frame → Bool → Type 0
Stepped t reached old new stack true = Circles t reached
Stepped t reached old new stack false = GoesOn t reached old new stack

-- a search is over, and this point is seen
pub record IsOver (t : FlowTable) (reached : List Bool) (start : ℕ) (old new : List Mark) : Type
    0 where
  pub sound : Sound t reached new []
  pub start_seen : mark_at reached new start ≡ New → ⊥
  pub seen : NoneNew reached old new

abbrev pub Found : FlowTable → List Bool → ℕ → List Mark → List Mark → Bool → Type 0
Found t reached start old new true = Circles t reached
Found t reached start old new false = IsOver t reached start old new
