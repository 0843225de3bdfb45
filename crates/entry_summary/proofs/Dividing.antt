-- Whether an expression may divide by 0 is told by its parts.
use Rattle.std.proofs.Common.{◌≡◌, Bool, false, not, nat_lt, ◌&&◌, ◌||◌, map, refl, sym, ap, ◌∙◌}
use mathlib.Core.Path.{fun_ext}
use Rattle.std.specs.List.{list_any}
use Rattle.exchange_model.specs.declared.expr.Expr.{Expr, out-Expr, fold_out-Expr}
use Rattle.exchange_model.specs.declared.expr.Term.{Term, out-Term, fold_out-Term}
use Rattle.exchange_model.specs.declared.expr.Joined.{Joined, fold-Joined, fold_out-Joined}
use Rattle.exchange_model.specs.declared.expr.Factor.{Factor, out-Factor, fold_out-Factor}
use Rattle.exchange_model.specs.declared.expr.Factor.{map-Factor}
use Rattle.exchange_model.specs.declared.expr.Factor.TheOpen.{Factor-F, Number, Variable, Temporary}
use Rattle.exchange_model.specs.declared.expr.Factor.TheOpen.{Field, Bracket, Reference}
use Rattle.entry_summary.specs.Faults.{Divisor, divisor_of, divides, joined_divides}
use Rattle.entry_summary.specs.Faults.{may_divide_by_zero}
use Rattle.entry_summary.specs.Divides.{term_divides, divisor_in, above_zero, joins_badly}

abbrev folded : Joined → Bool
folded = fold-Joined Divisor Bool Bool Bool divisor_of (λ e. list_any (λ t. t) e.terms) joined_divides (λ t. list_any (λ j. j) t.factors)

pub expr_out : (e : Expr) → may_divide_by_zero e ≡ list_any (λ t. t) (map term_divides (out-Expr e).terms)
unfolding may_divide_by_zero term_divides
expr_out e = fold_out-Expr Divisor Bool Bool Bool divisor_of (λ e. list_any (λ t. t) e.terms) joined_divides (λ t. list_any (λ j. j) t.factors) e

-- one layer of a factor
abbrev here : {A B C : Type 0} → Factor-F A Expr B C → Divisor
here (Number n) = record { above_zero = nat_lt 0 n; inside = false }
here (Bracket e) = record { above_zero = false; inside = may_divide_by_zero e }
here _ = record { above_zero = false; inside = false }

in_layer : (l : Factor-F Factor Expr Joined Term)
    → divisor_of (map-Factor Factor Expr Joined Term Divisor Bool Bool Bool divisor_in may_divide_by_zero folded
    term_divides l) ≡ here l
in_layer (Number n) = refl
in_layer (Variable v) = refl
in_layer (Temporary t) = refl
in_layer (Field file field pointer) = refl
in_layer (Bracket e) = refl
in_layer (Reference b) = refl

factor_out : (f : Factor) → divisor_in f ≡ here (out-Factor f)
unfolding divisor_in may_divide_by_zero term_divides
factor_out f = fold_out-Factor Divisor Bool Bool Bool divisor_of (λ e. list_any (λ t. t) e.terms) joined_divides
    (λ t. list_any (λ j. j) t.factors) f ∙ in_layer (out-Factor f)

above_is : {A B C : Type 0} (l : Factor-F A Expr B C) → (here l).above_zero ≡ above_zero l
above_is (Number n) = refl
above_is (Variable v) = refl
above_is (Temporary t) = refl
above_is (Field file field pointer) = refl
above_is (Bracket e) = refl
above_is (Reference b) = refl

folded_out : (j : Joined) → folded j ≡ (divisor_in j.factor).inside || (divides j.by && not (divisor_in j.factor).above_zero)
unfolding divisor_in
folded_out j = fold_out-Joined Divisor Bool Bool Bool divisor_of (λ e. list_any (λ t. t) e.terms) joined_divides (λ t. list_any (λ j. j) t.factors) j

joined_is : (j : Joined) → folded j ≡ joins_badly j
joined_is j =
    folded_out j
    ∙ ap (λ b. (divisor_in j.factor).inside || (divides j.by && not b))
    (ap (λ (d : Divisor). d.above_zero) (factor_out j.factor) ∙ above_is (out-Factor j.factor))

pub term_out : (t : Term) → term_divides t ≡ list_any (λ j. j) (map joins_badly (out-Term t).factors)
unfolding term_divides
term_out t =
    fold_out-Term Divisor Bool Bool Bool divisor_of (λ e. list_any (λ t. t) e.terms) joined_divides (λ t. list_any (λ j. j) t.factors) t
    ∙ ap (λ g. list_any (λ j. j) (map g (out-Term t).factors)) (fun_ext joined_is)

pub inside_is : (f : Factor) (l : Factor-F Factor Expr Joined Term) → out-Factor f ≡ l → (here l).inside ≡ (divisor_in f).inside
inside_is f l is = sym (ap (λ (d : Divisor). d.inside) (factor_out f ∙ ap (λ (m : Factor-F Factor Expr Joined Term). here m) is))
