-- The values of an expression come from its only factor, if it has one lone_source.
use Rattle.std.proofs.Common.{◌≡◌, ℕ, ◌+◌, ◌^◌, ◌<◌, ◌≤◌, List, [], ◌∷◌, length, map, get_or, refl}
use Rattle.std.proofs.Common.{sym, ap, ◌∙◌, subst, arith}
use Rattle.std.specs.List.{AllByRecursion}
use Rattle.exchange_model.specs.declared.expr.Expr.{Expr, out-Expr, fold_out-Expr}
use Rattle.exchange_model.specs.declared.expr.Term.{Term, out-Term, fold_out-Term}
use Rattle.exchange_model.specs.declared.expr.Joined.{Joined, fold_out-Joined}
use Rattle.exchange_model.specs.declared.expr.Factor.{Factor, out-Factor, fold_out-Factor}
use Rattle.exchange_model.specs.declared.expr.Factor.{map-Factor}
use Rattle.exchange_model.specs.declared.expr.Factor.TheOpen.{Factor-F, Number, Variable, Temporary}
use Rattle.exchange_model.specs.declared.expr.Factor.TheOpen.{Field, Bracket, Reference}
use Rattle.exchange_model.specs.Fits.{FactorFits}
use Rattle.exchange_model.specs.PartFits.{TermFits, JoinedFits, InsideFits}
use Rattle.exchange_model.proofs.Layers.{expr_fits-out, term_fits-out, joined_fits-out}
use Rattle.exchange_model.proofs.Layers.{factor_fits-out}
use Rattle.flow_points.specs.declared.fact.Value.TheVariants.{Any}
use Rattle.flow_points.specs.declared.flow.Source.{Source}
use Rattle.flow_points.specs.declared.flow.Source.TheVariants.{Is}
use Rattle.flow_points.specs.Sources.{lone_source, factor_source, expr_source}
use Rattle.flow_table.specs.Alone.{term_source, joined_source, own_source, inside_source, IsExprIn}
use Rattle.flow_table.specs.Alone.{IsTermIn, IsFactorIn}

pub expr_source-out : (e : Expr) → expr_source e ≡ lone_source (map term_source (out-Expr e).terms)
unfolding expr_source term_source
expr_source-out e = fold_out-Expr Source Source Source Source factor_source (λ e. lone_source e.terms) (λ j. j.factor) (λ t. lone_source t.factors) e

pub term_source-out : (t : Term) → term_source t ≡ lone_source (map joined_source (out-Term t).factors)
unfolding term_source joined_source
term_source-out t = fold_out-Term Source Source Source Source factor_source (λ e. lone_source e.terms) (λ j. j.factor) (λ t. lone_source t.factors) t

pub joined_source-out : (j : Joined) → joined_source j ≡ own_source j.factor
unfolding joined_source own_source
joined_source-out j = fold_out-Joined Source Source Source Source factor_source (λ e. lone_source e.terms) (λ j. j.factor) (λ t. lone_source t.factors) j

source_inside : (l : Factor-F Factor Expr Joined Term)
    → factor_source (map-Factor Factor Expr Joined Term Source Source Source Source own_source expr_source joined_source
    term_source l) ≡ inside_source l
source_inside (Number n) = refl
source_inside (Variable v) = refl
source_inside (Temporary t) = refl
source_inside (Field file field pointer) = refl
source_inside (Bracket e) = refl
source_inside (Reference b) = refl

pub own_source-out : (f : Factor) → own_source f ≡ inside_source (out-Factor f)
unfolding own_source expr_source joined_source term_source
own_source-out f = fold_out-Factor Source Source Source Source factor_source (λ e. lone_source e.terms) (λ j. j.factor)
    (λ t. lone_source t.factors) f ∙ source_inside (out-Factor f)

-- one item, or not
alone_more : {A : Type 0} (f : A → Source) (xs : List A) → (length xs ≡ 1 → ⊥) → lone_source (map f xs) ≡ Is Any
alone_more f [] no_one = refl
alone_more f (x ∷ []) no_one = absurd (no_one refl)
alone_more f (x ∷ y ∷ xs) no_one = refl

pub one_term : (e : Expr) (terms : List Term) (t : Term) → terms ≡ (out-Expr e).terms → terms ≡ t ∷ [] → term_source t ≡ expr_source e
one_term e terms t same is = sym (expr_source-out e ∙ ap (λ l. lone_source (map term_source l)) (sym same ∙ is))

pub no_term : (e : Expr) (terms : List Term) → terms ≡ (out-Expr e).terms → (length terms ≡ 1 → ⊥) → Is Any ≡ expr_source e
no_term e terms same no_one = sym (expr_source-out e ∙ ap (λ l. lone_source (map term_source l)) (sym same) ∙ alone_more term_source terms no_one)

pub one_factor : (t : Term) (factors : List Joined) (j : Joined) → factors ≡ (out-Term t).factors → factors ≡ j ∷ [] → own_source j.factor ≡ term_source t
one_factor t factors j same is = sym (term_source-out t ∙ ap (λ l. lone_source (map joined_source l)) (sym same ∙ is) ∙ joined_source-out j)

pub no_factor : (t : Term) (factors : List Joined) → factors ≡ (out-Term t).factors → (length factors ≡ 1 → ⊥) → Is Any ≡ term_source t
no_factor t factors same no_one = sym (term_source-out t ∙ ap (λ l. lone_source (map joined_source l)) (sym same) ∙ alone_more joined_source factors no_one)

-- parts are of the exchange too

pub term_in : (e : Expr) (terms : List Term) (t : Term) → terms ≡ (out-Expr e).terms → terms ≡ t ∷ [] → IsExprIn e → IsTermIn t
term_in e terms t same is h =
    let all : AllByRecursion (TermFits h.scope) (t ∷ []) = subst (AllByRecursion (TermFits h.scope)) (sym same ∙ is) (expr_fits-out h.scope e h.fits).1 in
    record { scope = h.scope; few = h.few; fits = all.0 }

pub factor_in : (t : Term) (factors : List Joined) (j : Joined) → factors ≡ (out-Term t).factors → factors ≡ j ∷ [] → IsTermIn t → IsFactorIn j.factor
factor_in t factors j same is h =
    let all : AllByRecursion (JoinedFits h.scope) (j ∷ []) = subst (AllByRecursion (JoinedFits h.scope)) (sym same ∙ is) (term_fits-out h.scope t h.fits).1 in
    record { scope = h.scope; few = h.few; fits = joined_fits-out h.scope j all.0 }

pub expr_in : (f : Factor) (e : Expr) → out-Factor f ≡ Bracket e → IsFactorIn f → IsExprIn e
expr_in f e is h = record {
  scope = h.scope;
  few = h.few;
  fits = subst (λ (l : Factor-F Factor Expr Joined Term). InsideFits h.scope l) is
      (factor_fits-out h.scope f h.fits).1;
}

pub block_below : (f : Factor) (b : ℕ) → out-Factor f ≡ Reference b → IsFactorIn f → b + 1 < 2 ^ 32
block_below f b is h =
    let fits : b < length h.scope.blocks = subst (λ (l : Factor-F Factor Expr Joined Term). FactorFits h.scope l) is (factor_fits-out h.scope f h.fits).0 in
    let few = h.few in
    omega (arith, fits, few)

pub factor_as : (f : Factor) (l : Factor-F Factor Expr Joined Term) → out-Factor f ≡ l → inside_source l ≡ own_source f
factor_as f l is = sym (own_source-out f ∙ ap (λ (m : Factor-F Factor Expr Joined Term). inside_source m) is)

-- a list of one item
pub one_item : {A : Type 0} (xs : List A) (x : A) → 1 ≤ length xs → length xs < 2 → x ≡ get_or xs 0 x → xs ≡ x ∷ []
one_item [] x some few is = absurd (omega arith)
one_item (y ∷ []) x some few is = ap (λ z. z ∷ []) (sym is)
one_item (y ∷ z ∷ xs) x some few is = absurd (omega arith)
