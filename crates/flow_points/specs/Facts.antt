-- Which facts follow from which: one rule for each flow and each slot, and the rule of the start.
--
-- A rule looks at facts that are known, whichever these are. The least facts are those to which a
-- list leads in which each fact follows from facts before it. Facts are closed where all that
-- follows from them is among them. A flow from a point looks only at facts at that point, and for
-- an answer at whether the RETRIEVE is reached.
use Rattle.std.specs.Prelude.{◌≡◌, ◌⊎◌, ℕ, ◌+◌, ◌<◌, List, [], ◌∷◌, Contains, Some, slice_get}
use Rattle.plex_limits.specs.declared.limits.TheConstants.{MOST_CALLERS}
use Rattle.exchange_model.specs.declared.exchange.Exchange.{Exchange}
use Rattle.exchange_model.specs.declared.entry.Entry.{Entry}
use Rattle.source_meaning.specs.Changes.{value_count}
use Rattle.flow_points.specs.declared.fact.Slot.{Slot}
use Rattle.flow_points.specs.declared.fact.Slot.TheVariants.{Depth}
use Rattle.flow_points.specs.declared.fact.Value.{Value}
use Rattle.flow_points.specs.declared.fact.Value.TheVariants.{Const}
use Rattle.flow_points.specs.declared.fact.Fact.{Fact}
use Rattle.flow_points.specs.declared.flow.Source.{Source}
use Rattle.flow_points.specs.declared.flow.Source.TheVariants.{Of, Is, Deeper, Nothing}
use Rattle.flow_points.specs.declared.flow.Passing.{Passing}
use Rattle.flow_points.specs.declared.flow.Passing.TheVariants.{Calls, Answers}
use Rattle.flow_points.specs.Places.{Place, StandsAt}
use Rattle.flow_points.specs.Slots.{HasSlot}
use Rattle.flow_points.specs.Sources.{start_source, source_of}
use Rattle.flow_points.specs.Flows.{LeadsTo}

abbrev pub fact : ℕ → ℕ → Slot → Value → Fact
fact e p s v = record { entry = e; point = p; slot = s; value = v }

-- which facts are known
abbrev pub Facts : Type 1
Facts = Fact → Type 0

-- the slot may have the value before the point, in a job of the entry
abbrev pub Known : Facts → ℕ → ℕ → Slot → Value → Type 0
Known P e p s v = P (fact e p s v)

-- a point is reached where something is known of how many callers wait
abbrev pub Reached : Facts → ℕ → ℕ → Type 0
Reached P e p = (v : Value) × Known P e p Depth v

-- fewer than eight callers may wait
abbrev pub HasRoomForCaller : Facts → ℕ → ℕ → Type 0
HasRoomForCaller P e p = (c : ℕ) × (c < MOST_CALLERS) × Known P e p Depth (Const c)

-- what a flow asks for besides that its statement is reached: a call that one more caller may wait,
-- an answer that the RETRIEVE is reached
abbrev pub Guarded : Facts → ℕ → ℕ → ℕ → Passing → Type 0
Guarded P e p q (Calls values answer) = HasRoomForCaller P e p
Guarded P e p q (Answers values) = Reached P e q
Guarded P e p q _ = Unit {0}

-- a value that comes from the source, before the point
abbrev pub SourceGives : Facts → ℕ → ℕ → Source → Value → Type 0
SourceGives P e p (Of s) v = Known P e p s v
SourceGives P e p (Is w) v = v ≡ w
SourceGives P e p Deeper v =
    (c : ℕ) × (c < MOST_CALLERS) × (v ≡ Const (c + 1)) × Known P e p Depth (Const c)
SourceGives P e p Nothing v = ⊥

-- a flow gives the fact
pub record FlowGives (x : Exchange) (P : Facts) (at : Place) (how : Passing) (f : Fact) : Type
    0 where
  pub leads : LeadsTo x at f.point how
  pub reached : Reached P f.entry at.point
  pub guarded : Guarded P f.entry at.point f.point how
  pub slot : HasSlot x f.point f.slot
  pub gives : SourceGives P f.entry at.point (source_of how f.slot) f.value

-- a flow from the statement at the point does
pub record PointGives (x : Exchange) (P : Facts) (p : ℕ) (f : Fact) : Type 0 where
  pub at : Place
  pub stands : StandsAt x p at
  pub how : Passing
  pub flow : FlowGives x P at how f

-- the start of a job at its entry does
pub record StartGives (x : Exchange) (P : Facts) (f : Fact) : Type 0 where
  pub entry : Entry
  pub there : slice_get x.entries f.entry ≡ Some entry
  pub lands : f.point ≡ entry.point
  pub slot : HasSlot x f.point f.slot
  pub gives : SourceGives P f.entry f.point (start_source (value_count x entry.signal) f.slot)
      f.value

-- one rule gives the fact
abbrev pub Gives : Exchange → Facts → Fact → Type 0
Gives x P f = StartGives x P f ⊎ ((p : ℕ) × PointGives x P p f)

-- each fact of the list, latest first, follows by one rule from those before it
abbrev pub IsDerivation : Exchange → List Fact → Type 0
IsDerivation x [] = Unit {0}
IsDerivation x (f ∷ before) = Gives x (Contains before) f × IsDerivation x before

-- some such list ends with the fact
pub record IsLeast (x : Exchange) (f : Fact) : Type 0 where
  pub before : List Fact
  pub derived : IsDerivation x (f ∷ before)

-- all that one rule gives is known already
abbrev pub IsClosed : Exchange → Facts → Type 0
IsClosed x P = (f : Fact) → Gives x P f → P f

-- what is known of a point in a job of the entry is known of it there as well
abbrev pub KnowsAlike : Facts → Facts → ℕ → ℕ → Type 0
KnowsAlike P Q e p = (s : Slot) (v : Value) → Known P e p s v → Known Q e p s v

-- an answer flows from the point to the other one
pub record AnswersTo (x : Exchange) (p q : ℕ) : Type 0 where
  pub at : Place
  pub stands : StandsAt x p at
  pub values : List Source
  pub leads : LeadsTo x at q (Answers values)

-- each RETRIEVE to which an answer flows from the point, and that is reached, is reached there as
-- well
abbrev pub ReachesAlike : Exchange → Facts → Facts → ℕ → ℕ → Type 0
ReachesAlike x P Q e p = (q : ℕ) → AnswersTo x p q → Reached P e q → Reached Q e q
