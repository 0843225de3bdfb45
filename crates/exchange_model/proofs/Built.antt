-- What of an expression is of the block once one layer is, and each of its parts: so are
-- expressions shown to be, from the inside out. What is said of statements is built in
-- `Everywhere`.
use Rattle.std.specs.Prelude.{◌≡◌, refl}
use Rattle.std.specs.List.{AllByRecursion}
use Rattle.std.proofs.Common.{subst}
use Rattle.exchange_model.specs.declared.expr.Expr.{Expr, out-Expr, roll-out-Expr, every-Expr}
use Rattle.exchange_model.specs.declared.expr.Expr.{every_made-Expr}
use Rattle.exchange_model.specs.declared.expr.Term.{Term, out-Term, roll-out-Term, every-Term}
use Rattle.exchange_model.specs.declared.expr.Term.{every_made-Term}
use Rattle.exchange_model.specs.declared.expr.Joined.{Joined, out-Joined, roll-out-Joined}
use Rattle.exchange_model.specs.declared.expr.Joined.{every-Joined, every_made-Joined}
use Rattle.exchange_model.specs.declared.expr.Factor.{Factor, Factor-F, out-Factor, roll-out-Factor}
use Rattle.exchange_model.specs.declared.expr.Factor.{every-Factor, every_made-Factor, map-Factor}
use Rattle.exchange_model.specs.declared.expr.Factor.TheOpen.{Number, Variable, Temporary, Field}
use Rattle.exchange_model.specs.declared.expr.Factor.TheOpen.{Bracket, Reference}
use Rattle.exchange_model.specs.Fits.{Scope, FactorFits, TermsStand, FactorsStand, ExprFits}
use Rattle.exchange_model.specs.PartFits.{TermFits, JoinedFits, FactorOwnFits, InsideFits}
use Rattle.exchange_model.proofs.Everywhere.{beside}
use Rattle.exchange_model.proofs.Layers.{FitFactor, FitExpr, FitJoined, FitTerm}

pub expr_fits-built : (s : Scope) (e : Expr) → TermsStand (out-Expr e).terms → AllByRecursion (TermFits s) (out-Expr e).terms → ExprFits s e
unfolding ExprFits TermFits
expr_fits-built s e stand all =
    let terms = beside (TermFits s) (out-Expr e).terms all in
    let built = every_made-Expr (FactorFits s) (λ e. TermsStand e.terms) (λ j. Unit {0}) (λ t. FactorsStand t.factors)
    (out-Expr e) (record { terms = terms.pairs }) (λ i. record { terms = terms.same i }) stand in
    subst (every-Expr (FactorFits s) (λ e. TermsStand e.terms) (λ j. Unit {0}) (λ t. FactorsStand t.factors)) (roll-out-Expr e) built

pub term_fits-built : (s : Scope) (t : Term) → FactorsStand (out-Term t).factors → AllByRecursion (JoinedFits s) (out-Term t).factors → TermFits s t
unfolding TermFits JoinedFits
term_fits-built s t stand all =
    let factors = beside (JoinedFits s) (out-Term t).factors all in
    let built = every_made-Term (FactorFits s) (λ e. TermsStand e.terms) (λ j. Unit {0}) (λ t. FactorsStand t.factors)
    (out-Term t) (record { minus = (out-Term t).minus; factors = factors.pairs })
    (λ i. record { minus = (out-Term t).minus; factors = factors.same i }) stand in
    subst (every-Term (FactorFits s) (λ e. TermsStand e.terms) (λ j. Unit {0}) (λ t. FactorsStand t.factors)) (roll-out-Term t) built

pub joined_fits-built : (s : Scope) (j : Joined) → FactorOwnFits s j.factor → JoinedFits s j
unfolding JoinedFits FactorOwnFits
joined_fits-built s j h =
    let built = every_made-Joined (FactorFits s) (λ e. TermsStand e.terms) (λ j. Unit {0}) (λ t. FactorsStand t.factors)
    (out-Joined j) (record { by = j.by; factor = (j.factor, h) }) refl tt in
    subst (every-Joined (FactorFits s) (λ e. TermsStand e.terms) (λ j. Unit {0}) (λ t. FactorsStand t.factors)) (roll-out-Joined j) built

-- a layer of parts, each beside its proof
record FactorBeside (s : Scope) (l : Factor-F Factor Expr Joined Term) : Type 0 where
  pub pairs : Factor-F (FitFactor s) (FitExpr s) (FitJoined s) (FitTerm s)
  pub same : map-Factor (FitFactor s) (FitExpr s) (FitJoined s) (FitTerm s) Factor Expr Joined Term (λ one. one.0)
      (λ one. one.0) (λ one. one.0) (λ one. one.0) pairs ≡ l

factor_beside : (s : Scope) (l : Factor-F Factor Expr Joined Term) → InsideFits s l → FactorBeside s l
unfolding ExprFits
factor_beside s (Number n) h = record { pairs = Number n; same = refl }
factor_beside s (Variable v) h = record { pairs = Variable v; same = refl }
factor_beside s (Temporary t) h = record { pairs = Temporary t; same = refl }
factor_beside s (Field file field pointer) h = record { pairs = Field file field pointer; same = refl }
factor_beside s (Bracket e) h = record { pairs = Bracket (e, h); same = refl }
factor_beside s (Reference b) h = record { pairs = Reference b; same = refl }

pub factor_fits-built : (s : Scope) (f : Factor) → FactorFits s (out-Factor f) → InsideFits s (out-Factor f) → FactorOwnFits s f
unfolding FactorOwnFits
factor_fits-built s f own inside =
    let parts = factor_beside s (out-Factor f) inside in
    let built = every_made-Factor (FactorFits s) (λ e. TermsStand e.terms) (λ j. Unit {0}) (λ t. FactorsStand t.factors)
    (out-Factor f) parts.pairs parts.same own in
    subst (every-Factor (FactorFits s) (λ e. TermsStand e.terms) (λ j. Unit {0}) (λ t. FactorsStand t.factors)) (roll-out-Factor f) built
