-- The stored data that an expression names: variables of its block, and fields of the record whose
-- number a temporary has.
use Rattle.std.specs.Prelude.{ℕ, List, [], ◌∷◌}
use Rattle.exchange_model.specs.declared.expr.Expr.{Expr, fold-Expr}
use Rattle.exchange_model.specs.declared.expr.Term.{Term, fold-Term}
use Rattle.exchange_model.specs.declared.expr.Joined.{Joined}
use Rattle.exchange_model.specs.declared.expr.Factor.{Factor, fold-Factor}
use Rattle.exchange_model.specs.declared.expr.Factor.TheOpen.{Factor-F, Variable, Field, Bracket}
pub use Rattle.exchange_model.specs.Everywhere.{Layer}
use Rattle.exchange_model.specs.Inside.{joined}

pub data Named : Type 0 where
  NamedVariable : (variable : ℕ) → Named
  NamedField : (file field pointer : ℕ) → Named

abbrev pub factor_named : Factor-F (List Named) (List Named) (List Named) (List Named) → List Named
factor_named (Variable v) = NamedVariable v ∷ []
factor_named (Field file field pointer) = NamedField file field pointer ∷ []
factor_named (Bracket inside) = inside
factor_named _ = []

-- what an expression, a term and a factor name, from left to right
unfoldable pub named_in : Expr → List Named
named_in = fold-Expr (List Named) (List Named) (List Named) (List Named) factor_named
    (λ e. joined e.terms) (λ j. j.factor) (λ t. joined t.factors)

unfoldable pub named_in_term : Term → List Named
named_in_term = fold-Term (List Named) (List Named) (List Named) (List Named) factor_named
    (λ e. joined e.terms) (λ j. j.factor) (λ t. joined t.factors)

unfoldable pub named_in_factor : Factor → List Named
named_in_factor = fold-Factor (List Named) (List Named) (List Named) (List Named) factor_named
    (λ e. joined e.terms) (λ j. j.factor) (λ t. joined t.factors)

abbrev pub named_in_joined : Joined → List Named
named_in_joined j = named_in_factor j.factor
