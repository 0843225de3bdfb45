-- What an expression gives, told by its outermost layer.
use Rattle.std.proofs.Common.{◌≡◌, ℕ, ◌+◌, List, [], ◌∷◌, map, refl, ap, ◌∙◌}
use Rattle.std.specs.Prelude.{slice_get, slice_index}
use Rattle.exchange_model.specs.declared.expr.Expr.{Expr, out-Expr, fold_out-Expr}
use Rattle.exchange_model.specs.declared.expr.Term.{Term, out-Term, fold-Term, fold_out-Term}
use Rattle.exchange_model.specs.declared.expr.Joined.{Joined, fold-Joined, fold_out-Joined}
use Rattle.exchange_model.specs.declared.expr.Factor.{Factor, Factor-F, out-Factor, map-Factor}
use Rattle.exchange_model.specs.declared.expr.Factor.{fold_out-Factor}
use Rattle.exchange_model.specs.declared.expr.Factor.TheVariants as factor
use Rattle.source_meaning.specs.Value.{Gives, Eval, Sight, Summand, Multiplier, factor_layer}
use Rattle.source_meaning.specs.Value.{expr_layer, multiplier_layer, summand_layer, sum_value}
use Rattle.source_meaning.specs.Value.{product_value, expr_value, factor_value, term_value}
use Rattle.source_meaning.specs.Value.{multiplier_of, summand_of, cell_value, field_value}

-- what the fold makes of a factor in a term and of a term
abbrev folded_joined : Joined → Multiplier
folded_joined = fold-Joined Eval Eval Multiplier Summand factor_layer expr_layer multiplier_layer summand_layer

abbrev folded_term : Term → Summand
folded_term = fold-Term Eval Eval Multiplier Summand factor_layer expr_layer multiplier_layer summand_layer

joined_is : (j : Joined) → folded_joined j ≡ multiplier_of j
unfolding factor_value
joined_is j = fold_out-Joined Eval Eval Multiplier Summand factor_layer expr_layer multiplier_layer summand_layer j

all_same : {A B : Type 0} (f g : A → B) → ((a : A) → f a ≡ g a) → (xs : List A) → map f xs ≡ map g xs
all_same f g same [] = refl
all_same f g same (x ∷ xs) = ap (λ y. y ∷ map f xs) (same x) ∙ ap (λ ys. g x ∷ ys) (all_same f g same xs)

term_is : (t : Term) → folded_term t ≡ summand_of t
unfolding term_value
term_is t =
    fold_out-Term Eval Eval Multiplier Summand factor_layer expr_layer multiplier_layer summand_layer t
    ∙ ap (λ ms. record { minus = (out-Term t).minus; value = product_value ms 1 }) (all_same folded_joined multiplier_of joined_is (out-Term t).factors)

-- an expression is the sum of its terms
pub expr_value-out : (e : Expr) → expr_value e ≡ sum_value (map summand_of (out-Expr e).terms) 0
unfolding expr_value
expr_value-out e =
    fold_out-Expr Eval Eval Multiplier Summand factor_layer expr_layer multiplier_layer summand_layer e
    ∙ ap (λ ts. sum_value ts 0) (all_same folded_term summand_of term_is (out-Expr e).terms)

-- a term is the product of its factors
pub term_value-out : (t : Term) → term_value t ≡ product_value (map multiplier_of (out-Term t).factors) 1
unfolding term_value
term_value-out t = refl

-- one layer of a factor, once each of its parts is what it gives
abbrev opened : Factor-F Factor Expr Joined Term → Eval
opened l = factor_layer (map-Factor Factor Expr Joined Term Eval Eval Multiplier Summand factor_value expr_value folded_joined folded_term l)

factor_value-out : (f : Factor) → factor_value f ≡ opened (out-Factor f)
unfolding factor_value expr_value
factor_value-out f = fold_out-Factor Eval Eval Multiplier Summand factor_layer expr_layer multiplier_layer summand_layer f

-- a factor, by its kind
pub factor_value-Number : (n : ℕ) (s : Sight) → factor_value (factor.Number n) s ≡ Gives [] n
factor_value-Number n s = ap (λ (v : Eval). v s) (factor_value-out (factor.Number n) ∙ ap opened (factor.outs-Number n))

pub factor_value-Variable : (v : ℕ) (s : Sight) → factor_value (factor.Variable v) s ≡ cell_value (s.first + v) s
factor_value-Variable v s = ap (λ (e : Eval). e s) (factor_value-out (factor.Variable v) ∙ ap opened (factor.outs-Variable v))

pub factor_value-Temporary : (t : ℕ) (s : Sight) → factor_value (factor.Temporary t) s ≡ Gives [] (slice_index s.temps t)
factor_value-Temporary t s = ap (λ (e : Eval). e s) (factor_value-out (factor.Temporary t) ∙ ap opened (factor.outs-Temporary t))

pub factor_value-Field : (file field pointer : ℕ) (s : Sight)
    → factor_value (factor.Field file field pointer) s
    ≡ field_value (slice_get s.files file) file field (slice_index s.temps pointer) s
factor_value-Field file field pointer s = ap (λ (e : Eval). e s)
    (factor_value-out (factor.Field file field pointer) ∙ ap opened (factor.outs-Field file field pointer))

pub factor_value-Bracket : (e : Expr) (s : Sight) → factor_value (factor.Bracket e) s ≡ expr_value e s
factor_value-Bracket e s = ap (λ (v : Eval). v s) (factor_value-out (factor.Bracket e) ∙ ap opened (factor.outs-Bracket e))

pub factor_value-Reference : (b : ℕ) (s : Sight) → factor_value (factor.Reference b) s ≡ Gives [] (b + 1)
factor_value-Reference b s = ap (λ (v : Eval). v s) (factor_value-out (factor.Reference b) ∙ ap opened (factor.outs-Reference b))
