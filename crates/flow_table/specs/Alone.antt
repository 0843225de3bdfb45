-- Where the values of a term and of a factor come from.
use Rattle.std.specs.Prelude.{ℕ, ◌+◌, ◌^◌, ◌<◌, nat_lt, length, if◌then◌else◌}
use Rattle.exchange_model.specs.declared.expr.Expr.{Expr}
use Rattle.exchange_model.specs.declared.expr.Term.{Term, fold-Term}
use Rattle.exchange_model.specs.declared.expr.Joined.{Joined, fold-Joined}
use Rattle.exchange_model.specs.declared.expr.Factor.{Factor, fold-Factor}
use Rattle.exchange_model.specs.declared.expr.Factor.TheOpen.{Factor-F, Number, Variable, Temporary}
use Rattle.exchange_model.specs.declared.expr.Factor.TheOpen.{Field, Bracket, Reference}
use Rattle.exchange_model.specs.Fits.{Scope, ExprFits}
use Rattle.exchange_model.specs.PartFits.{TermFits, FactorOwnFits}
use Rattle.flow_points.specs.declared.limits.TheConstants.{SMALL_NUMBERS}
use Rattle.flow_points.specs.declared.fact.Slot.TheVariants.{Temp}
use Rattle.flow_points.specs.declared.fact.Value.TheVariants.{Const, Any}
use Rattle.flow_points.specs.declared.flow.Source.{Source}
use Rattle.flow_points.specs.declared.flow.Source.TheVariants.{Of, Is}
use Rattle.flow_points.specs.Sources.{lone_source, factor_source, expr_source}

unfoldable pub term_source : Term → Source
term_source = fold-Term Source Source Source Source factor_source (λ e. lone_source e.terms)
    (λ j. j.factor) (λ t. lone_source t.factors)

unfoldable pub joined_source : Joined → Source
joined_source = fold-Joined Source Source Source Source factor_source (λ e. lone_source e.terms)
    (λ j. j.factor) (λ t. lone_source t.factors)

unfoldable pub own_source : Factor → Source
own_source = fold-Factor Source Source Source Source factor_source (λ e. lone_source e.terms)
    (λ j. j.factor) (λ t. lone_source t.factors)

abbrev pub small : ℕ → Source
small n = (if nat_lt n SMALL_NUMBERS then Is (Const n) else Is Any)

-- a factor, by its layer
abbrev pub inside_source : {A B C : Type 0} → Factor-F A Expr B C → Source
inside_source (Number n) = small n
inside_source (Variable v) = Is Any
inside_source (Temporary t) = Of (Temp t)
inside_source (Field file field pointer) = Is Any
inside_source (Bracket e) = expr_source e
inside_source (Reference b) = Is (Const (b + 1))

-- an expression, a term and a factor of an exchange, whose blocks are few
pub record IsExprIn (e : Expr) : Type 0 where
  pub scope : Scope
  pub few : length scope.blocks < 2 ^ 31
  pub fits : ExprFits scope e

pub record IsTermIn (t : Term) : Type 0 where
  pub scope : Scope
  pub few : length scope.blocks < 2 ^ 31
  pub fits : TermFits scope t

pub record IsFactorIn (f : Factor) : Type 0 where
  pub scope : Scope
  pub few : length scope.blocks < 2 ^ 31
  pub fits : FactorOwnFits scope f
