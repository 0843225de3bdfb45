-- What an expression names, told by its outermost layer.
use Rattle.std.proofs.Common.{◌≡◌, ℕ, List, [], ◌∷◌, map, refl, ap, ◌∙◌}
use mathlib.Core.Path.{fun_ext}
use Rattle.exchange_model.specs.declared.expr.Expr.{Expr, out-Expr, fold_out-Expr}
use Rattle.exchange_model.specs.declared.expr.Term.{Term, out-Term, fold-Term, fold_out-Term}
use Rattle.exchange_model.specs.declared.expr.Joined.{Joined, fold-Joined, fold_out-Joined}
use Rattle.exchange_model.specs.declared.expr.Factor.{Factor, Factor-F, out-Factor, fold-Factor}
use Rattle.exchange_model.specs.declared.expr.Factor.{fold_out-Factor, map-Factor}
use Rattle.exchange_model.specs.declared.expr.Factor.TheVariants as factor
use Rattle.exchange_model.specs.declared.expr.Factor.TheOpen.{Variable, Field, Bracket}
use Rattle.exchange_model.specs.Inside.{joined}
use Rattle.source_meaning.specs.Named.{Named, NamedVariable, NamedField, factor_named, named_in}
use Rattle.source_meaning.specs.Named.{named_in_term, named_in_factor, named_in_joined}

abbrev folded : Joined → List Named
folded = fold-Joined (List Named) (List Named) (List Named) (List Named) factor_named (λ e. joined e.terms) (λ j. j.factor) (λ t. joined t.factors)

pub named_in-out : (e : Expr) → named_in e ≡ joined (map named_in_term (out-Expr e).terms)
unfolding named_in named_in_term
named_in-out e = fold_out-Expr (List Named) (List Named) (List Named) (List Named) factor_named (λ e. joined e.terms) (λ j. j.factor) (λ t. joined t.factors) e

joined_is : (j : Joined) → folded j ≡ named_in_joined j
unfolding named_in_factor
joined_is j = fold_out-Joined (List Named) (List Named) (List Named) (List Named) factor_named (λ e. joined e.terms) (λ j. j.factor) (λ t. joined t.factors) j

pub named_in_term-out : (t : Term) → named_in_term t ≡ joined (map named_in_joined (out-Term t).factors)
unfolding named_in_term
named_in_term-out t =
    fold_out-Term (List Named) (List Named) (List Named) (List Named) factor_named (λ e. joined e.terms) (λ j. j.factor) (λ t. joined t.factors) t
    ∙ ap (λ g. joined (map g (out-Term t).factors)) (fun_ext joined_is)

-- one layer of a factor
abbrev named_here : {A B C : Type 0} → Factor-F A Expr B C → List Named
named_here (Variable v) = NamedVariable v ∷ []
named_here (Field file field pointer) = NamedField file field pointer ∷ []
named_here (Bracket e) = named_in e
named_here _ = []

named_inside : (l : Factor-F Factor Expr Joined Term)
    → factor_named (map-Factor Factor Expr Joined Term (List Named) (List Named) (List Named) (List Named)
    named_in_factor named_in folded named_in_term l) ≡ named_here l
named_inside (Variable v) = refl
named_inside (Field file field pointer) = refl
named_inside (Bracket e) = refl
named_inside _ = refl

named_in_factor-out : (f : Factor) → named_in_factor f ≡ named_here (out-Factor f)
unfolding named_in_factor named_in named_in_term
named_in_factor-out f =
    fold_out-Factor (List Named) (List Named) (List Named) (List Named) factor_named (λ e. joined e.terms)
    (λ j. j.factor) (λ t. joined t.factors) f ∙ named_inside (out-Factor f)

pub named-Variable : (v : ℕ) → named_in_factor (factor.Variable v) ≡ NamedVariable v ∷ []
named-Variable v = named_in_factor-out (factor.Variable v) ∙ ap named_here (factor.outs-Variable v)

pub named-Field : (file field pointer : ℕ) → named_in_factor (factor.Field file field pointer) ≡ NamedField file field pointer ∷ []
named-Field file field pointer = named_in_factor-out (factor.Field file field pointer) ∙ ap named_here (factor.outs-Field file field pointer)

pub named-Bracket : (e : Expr) → named_in_factor (factor.Bracket e) ≡ named_in e
named-Bracket e = named_in_factor-out (factor.Bracket e) ∙ ap named_here (factor.outs-Bracket e)

pub named-Number : (n : ℕ) → named_in_factor (factor.Number n) ≡ []
named-Number n = named_in_factor-out (factor.Number n) ∙ ap named_here (factor.outs-Number n)

pub named-Temporary : (t : ℕ) → named_in_factor (factor.Temporary t) ≡ []
named-Temporary t = named_in_factor-out (factor.Temporary t) ∙ ap named_here (factor.outs-Temporary t)

pub named-Reference : (b : ℕ) → named_in_factor (factor.Reference b) ≡ []
named-Reference b = named_in_factor-out (factor.Reference b) ∙ ap named_here (factor.outs-Reference b)
