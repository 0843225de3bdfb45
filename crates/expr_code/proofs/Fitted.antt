-- What the operands of an expression of a block are.
use Rattle.std.proofs.Common.{◌≡◌, ℕ, ◌+◌, ◌<◌, ◌^◌, List, [], ◌∷◌, length, map, ap, ◌∙◌, subst}
use mathlib.Core.Path.{fun_ext}
use Rattle.std.specs.List.{AllByRecursion}
use Rattle.exchange_model.specs.declared.expr.Expr.{Expr}
use Rattle.exchange_model.specs.declared.expr.Term.{Term, out-Term}
use Rattle.exchange_model.specs.declared.expr.Joined.{Joined}
use Rattle.exchange_model.specs.declared.expr.Factor.TheVariants.{Number, Variable, Temporary}
use Rattle.exchange_model.specs.declared.expr.Factor.TheVariants.{Field, Bracket, Reference}
use Rattle.exchange_model.specs.declared.expr.Factor.TheVariants.{outs-Number, outs-Variable}
use Rattle.exchange_model.specs.declared.expr.Factor.TheVariants.{outs-Temporary, outs-Field}
use Rattle.exchange_model.specs.declared.expr.Factor.TheVariants.{outs-Bracket, outs-Reference}
use Rattle.exchange_model.specs.Inside.{most, bracket_depth}
use Rattle.exchange_model.specs.Fits.{Scope, IsField, FactorFits, ExprFits}
use Rattle.exchange_model.specs.PartFits.{TermFits, JoinedFits, FactorOwnFits, InsideFits}
use Rattle.exchange_model.proofs.Layers.{term_fits-out, joined_fits-out, factor_fits-out}
use Rattle.exchange_model.specs.PartCounts.{term_depth, factor_own_depth, inside_depth}
use Rattle.exchange_model.proofs.Counted.{term_depth-out, joined_depth-out, factor_own_depth-out}

pub number_fits : (s : Scope) (n : ℕ) → FactorOwnFits s (Number n) → n < 2 ^ 32
number_fits s n h = subst (FactorFits s) (outs-Number n) (factor_fits-out s (Number n) h).0

pub variable_fits : (s : Scope) (v : ℕ) → FactorOwnFits s (Variable v) → v < length s.block.variables
variable_fits s v h = subst (FactorFits s) (outs-Variable v) (factor_fits-out s (Variable v) h).0

pub temporary_fits : (s : Scope) (t : ℕ) → FactorOwnFits s (Temporary t) → t < length s.block.temporaries
temporary_fits s t h = subst (FactorFits s) (outs-Temporary t) (factor_fits-out s (Temporary t) h).0

pub field_fits : (s : Scope) (file field pointer : ℕ) → FactorOwnFits s (Field file field pointer)
    → IsField s file field × (pointer < length s.block.temporaries)
field_fits s file field pointer h = subst (FactorFits s) (outs-Field file field pointer) (factor_fits-out s (Field file field pointer) h).0

pub bracket_fits : (s : Scope) (e : Expr) → FactorOwnFits s (Bracket e) → ExprFits s e
bracket_fits s e h = subst (InsideFits s) (outs-Bracket e) (factor_fits-out s (Bracket e) h).1

pub reference_fits : (s : Scope) (b : ℕ) → FactorOwnFits s (Reference b) → b < length s.blocks
reference_fits s b h = subst (FactorFits s) (outs-Reference b) (factor_fits-out s (Reference b) h).0

all_joined : (s : Scope) (js : List Joined) → AllByRecursion (JoinedFits s) js → AllByRecursion (λ (j : Joined). FactorOwnFits s j.factor) js
all_joined s [] h = tt
all_joined s (j ∷ js) h = (joined_fits-out s j h.0, all_joined s js h.1)

pub factors_fit : (s : Scope) (t : Term) → TermFits s t → AllByRecursion (λ (j : Joined). FactorOwnFits s j.factor) (out-Term t).factors
factors_fit s t h = all_joined s (out-Term t).factors (term_fits-out s t h).1

-- how deep a term and a bracket are
pub term_is_deep : (t : Term) → term_depth t ≡ most (map (λ (j : Joined). factor_own_depth j.factor) (out-Term t).factors)
term_is_deep t = term_depth-out t ∙ ap (λ g. most (map g (out-Term t).factors)) (fun_ext joined_depth-out)

pub bracket_is_deep : (e : Expr) → factor_own_depth (Bracket e) ≡ bracket_depth e + 1
bracket_is_deep e = factor_own_depth-out (Bracket e) ∙ ap inside_depth (outs-Bracket e)
