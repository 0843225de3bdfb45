-- The code of an expression, told by its outermost layer.
use Rattle.std.proofs.Common.{◌≡◌, ℕ, ◌+◌, [], ◌∷◌, map, refl, ap, ◌∙◌, slice_get}
use mathlib.Core.Path.{fun_ext}
use Rattle.machine_code.specs.declared.op.Op.TheVariants.{Ldi, Ldt, Ldw}
use Rattle.exchange_model.specs.declared.expr.Expr.{Expr, out-Expr, fold_out-Expr}
use Rattle.exchange_model.specs.declared.expr.Term.{Term, out-Term, fold-Term, fold_out-Term}
use Rattle.exchange_model.specs.declared.expr.Joined.{Joined, fold-Joined, fold_out-Joined}
use Rattle.exchange_model.specs.declared.expr.Factor.{Factor, Factor-F, map-Factor, out-Factor}
use Rattle.exchange_model.specs.declared.expr.Factor.{fold_out-Factor}
use Rattle.exchange_model.specs.declared.expr.Factor.TheVariants.{Number, Variable, Temporary}
use Rattle.exchange_model.specs.declared.expr.Factor.TheVariants.{Field, Bracket, Reference}
use Rattle.exchange_model.specs.declared.expr.Factor.TheVariants.{outs-Number, outs-Variable}
use Rattle.exchange_model.specs.declared.expr.Factor.TheVariants.{outs-Temporary, outs-Field}
use Rattle.exchange_model.specs.declared.expr.Factor.TheVariants.{outs-Bracket, outs-Reference}
use Rattle.expr_code.specs.Code.{Code, FactorCode, TermCode, factor_layer, joined_layer, term_layer}
use Rattle.expr_code.specs.Code.{expr_layer, whole_product, whole_sum, field_code, expr_code}
use Rattle.expr_code.specs.Code.{term_code, factor_code, joined_code, summand_code}

-- what the fold makes of a factor in a term and of a term
abbrev folded_joined : Joined → FactorCode
folded_joined = fold-Joined Code Code FactorCode TermCode factor_layer expr_layer joined_layer term_layer

abbrev folded_term : Term → TermCode
folded_term = fold-Term Code Code FactorCode TermCode factor_layer expr_layer joined_layer term_layer

joined_is : folded_joined ≡ joined_code
unfolding factor_code
joined_is = fun_ext (λ j. fold_out-Joined Code Code FactorCode TermCode factor_layer expr_layer joined_layer term_layer j)

term_is : folded_term ≡ summand_code
unfolding term_code
term_is = fun_ext (λ t.
    fold_out-Term Code Code FactorCode TermCode factor_layer expr_layer joined_layer term_layer t
    ∙ ap (λ g. record { minus = (out-Term t).minus; code = whole_product (map g (out-Term t).factors) }) joined_is)

-- an expression is the sum of its terms
pub expr_code-out : (e : Expr) → expr_code e ≡ whole_sum (map summand_code (out-Expr e).terms)
unfolding expr_code
expr_code-out e =
    fold_out-Expr Code Code FactorCode TermCode factor_layer expr_layer joined_layer term_layer e
    ∙ ap (λ g. whole_sum (map g (out-Expr e).terms)) term_is

-- a term is the product of its factors
pub term_code-out : (t : Term) → term_code t ≡ whole_product (map joined_code (out-Term t).factors)
unfolding term_code
term_code-out t = refl

-- one layer of a factor, once the code of each of its parts is known
abbrev opened : Factor-F Factor Expr Joined Term → Code
opened l = factor_layer (map-Factor Factor Expr Joined Term Code Code FactorCode TermCode factor_code expr_code folded_joined folded_term l)

factor_code-out : (f : Factor) → factor_code f ≡ opened (out-Factor f)
unfolding factor_code expr_code
factor_code-out f = fold_out-Factor Code Code FactorCode TermCode factor_layer expr_layer joined_layer term_layer f

-- a factor, by its kind
pub factor_code-Number : (n : ℕ) → factor_code (Number n) ≡ (λ site r. Ldi r n ∷ [])
factor_code-Number n = factor_code-out (Number n) ∙ ap opened (outs-Number n)

pub factor_code-Variable : (v : ℕ) → factor_code (Variable v) ≡ (λ site r. Ldw r (site.first + v) ∷ [])
factor_code-Variable v = factor_code-out (Variable v) ∙ ap opened (outs-Variable v)

pub factor_code-Temporary : (t : ℕ) → factor_code (Temporary t) ≡ (λ site r. Ldt r t ∷ [])
factor_code-Temporary t = factor_code-out (Temporary t) ∙ ap opened (outs-Temporary t)

pub factor_code-Field : (file field pointer : ℕ)
    → factor_code (Field file field pointer) ≡ (λ site r. field_code (slice_get site.files file) file field pointer r)
factor_code-Field file field pointer = factor_code-out (Field file field pointer) ∙ ap opened (outs-Field file field pointer)

pub factor_code-Bracket : (e : Expr) → factor_code (Bracket e) ≡ expr_code e
factor_code-Bracket e = factor_code-out (Bracket e) ∙ ap opened (outs-Bracket e)

pub factor_code-Reference : (b : ℕ) → factor_code (Reference b) ≡ (λ site r. Ldi r (b + 1) ∷ [])
factor_code-Reference b = factor_code-out (Reference b) ∙ ap opened (outs-Reference b)
