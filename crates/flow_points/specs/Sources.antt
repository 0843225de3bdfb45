-- Where values come from: those of an expression, those at the start of a job, and those of each
-- slot over a flow.
use Rattle.std.specs.Prelude.{ℕ, ◌+◌, nat_lt, nat_eq, List, [], ◌∷◌, slice_get, unwrap_or}
use Rattle.std.specs.Prelude.{if◌then◌else◌}
use Rattle.exchange_model.specs.declared.expr.Expr.{Expr, fold-Expr}
use Rattle.exchange_model.specs.declared.expr.Factor.TheOpen.{Factor-F, Number, Temporary, Bracket}
use Rattle.exchange_model.specs.declared.expr.Factor.TheOpen.{Reference}
use Rattle.flow_points.specs.declared.fact.Slot.{Slot}
use Rattle.flow_points.specs.declared.fact.Slot.TheVariants.{Temp, Given, Answered, Depth, Awaits}
use Rattle.flow_points.specs.declared.fact.Value.TheVariants.{Arg, Const, Any}
use Rattle.flow_points.specs.declared.flow.Source.{Source}
use Rattle.flow_points.specs.declared.flow.Source.TheVariants.{Of, Is, Deeper, Nothing}
use Rattle.flow_points.specs.declared.flow.Passing.{Passing}
use Rattle.flow_points.specs.declared.flow.Passing.TheVariants.{Kept, Sets, Takes, Retrieves}
use Rattle.flow_points.specs.declared.flow.Passing.TheVariants.{Begins, Passes, Calls, Answers}
use Rattle.flow_points.specs.declared.limits.TheConstants.{SMALL_NUMBERS}

-- expressions: a small number lone_source, a reference lone_source and a temporary lone_source are
-- known; a bracket lone_source has what is in it; and everything else may be any number

abbrev pub lone_source : List Source → Source
lone_source (s ∷ []) = s
lone_source _ = Is Any

abbrev pub factor_source : {E J T : Type 0} → Factor-F E Source J T → Source
factor_source (Number n) = (if nat_lt n SMALL_NUMBERS then Is (Const n) else Is Any)
factor_source (Temporary t) = Of (Temp t)
factor_source (Bracket inside) = inside
factor_source (Reference b) = Is (Const (b + 1))
factor_source _ = Is Any

unfoldable pub expr_source : Expr → Source
expr_source = fold-Expr Source Source Source Source factor_source (λ e. lone_source e.terms)
    (λ j. j.factor) (λ t. lone_source t.factors)

-- the start of a job, whose signal has so many values

abbrev pub start_source : ℕ → Slot → Source
start_source count (Temp t) = Is (Const 0)
start_source count (Given k) = (if nat_lt k count then Is (Arg k) else Is (Const 0))
start_source count (Answered k) = Nothing
start_source count Depth = Is (Const 0)
start_source count Awaits = Is (Const 0)

-- flows

-- everything goes along, but for the values of an answer
abbrev pub kept : Slot → Source
kept (Answered k) = Nothing
kept s = Of s

-- a temporary gets other values
abbrev pub sets : ℕ → Source → Slot → Source
sets temp new (Temp t) = (if nat_eq t temp then new else Of (Temp t))
sets temp new s = kept s

-- a temporary gets the values of the slots from the k-th on, as it is named; of a name that stands
-- twice the last counts
abbrev pub named : List ℕ → (ℕ → Slot) → ℕ → ℕ → Source → Source
named [] slot k t before = before
named (name ∷ names) slot k t before =
    named names slot (k + 1) t (if nat_eq t name then Of (slot k) else before)

abbrev pub takes : List ℕ → (ℕ → Slot) → Slot → Source
takes names slot (Temp t) = named names slot 0 t (Of (Temp t))
takes names slot s = kept s

-- the value at a place, and another source past the last one
abbrev pub at_place : List Source → ℕ → Source → Source
at_place values k past = unwrap_or (slice_get values k) past

-- an activation begins with these entry values
abbrev pub begins : (ℕ → Source) → Source → Source → Slot → Source
begins given depth awaits (Temp t) = Is (Const 0)
begins given depth awaits (Given k) = given k
begins given depth awaits (Answered k) = Nothing
begins given depth awaits Depth = depth
begins given depth awaits Awaits = awaits

-- the caller gets these values of the answer
abbrev pub answers : List Source → Slot → Source
answers values (Answered k) = at_place values k Nothing
answers values _ = Nothing

-- where the values of a slot come from over a flow
abbrev pub source_of : Passing → Slot → Source
source_of Kept s = kept s
source_of (Sets temp new) s = sets temp new s
source_of (Takes temps) s = takes temps (λ k. Given k) s
source_of (Retrieves temps) s = takes temps (λ k. Answered k) s
source_of (Begins values) s =
    begins (λ k. at_place values k (Is (Const 0))) (Of Depth) (Of Awaits) s
source_of (Passes count) s =
    begins (λ k. if nat_lt k count then Of (Given k) else Is (Const 0)) (Of Depth) (Of Awaits) s
source_of (Calls values answer) s =
    begins (λ k. at_place values k (Is (Const 0))) Deeper (Is (Const (answer + 1))) s
source_of (Answers values) s = answers values s
