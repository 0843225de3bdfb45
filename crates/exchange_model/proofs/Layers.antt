-- What is said of all layers, opened: one layer, and the same of each of its parts.
--
-- Of a statement or an expression the types have one layer, whose parts are statements or
-- expressions again. A fact of all layers is a fact of the outer one and of each part; a number
-- that is made layer by layer is made of those of the parts.
use Rattle.std.specs.Prelude.{List, [], ◌∷◌, map}
use Rattle.std.proofs.Common.{◌≡◌, sym, ap, ◌∙◌, subst}
use Rattle.std.specs.List.{AllByRecursion}
use Rattle.exchange_model.specs.declared.expr.Expr.{Expr, Expr-F, out-Expr, every-Expr}
use Rattle.exchange_model.specs.declared.expr.Expr.{every_here-Expr, every_held-Expr}
use Rattle.exchange_model.specs.declared.expr.Term.{Term, Term-F, out-Term, every-Term}
use Rattle.exchange_model.specs.declared.expr.Term.{every_here-Term, every_held-Term}
use Rattle.exchange_model.specs.declared.expr.Joined.{Joined, Joined-F, every-Joined}
use Rattle.exchange_model.specs.declared.expr.Joined.{every_held-Joined}
use Rattle.exchange_model.specs.declared.expr.Factor.{Factor, Factor-F, out-Factor, every-Factor}
use Rattle.exchange_model.specs.declared.expr.Factor.{every_here-Factor, every_held-Factor}
use Rattle.exchange_model.specs.declared.expr.Factor.{map-Factor}
use Rattle.exchange_model.specs.declared.expr.Factor.TheOpen.{Bracket}
use Rattle.exchange_model.specs.declared.stmt.Stmt.{Stmt}
use Rattle.exchange_model.specs.declared.stmt.When.{When}
use Rattle.exchange_model.specs.declared.stmt.StmtKind.{StmtKind, StmtKind-F, out-StmtKind}
use Rattle.exchange_model.specs.declared.stmt.StmtKind.{roll-StmtKind, roll-out-StmtKind}
use Rattle.exchange_model.specs.Fits.{Scope, LayerFits, StmtFits, FactorFits, TermsStand}
use Rattle.exchange_model.specs.Fits.{FactorsStand, ExprFits}
use Rattle.exchange_model.specs.PartFits.{PartsFit, TermFits, JoinedFits, FactorOwnFits, InsideFits}
use Rattle.exchange_model.proofs.Everywhere.{everywhere-own, everywhere-parts}

-- statements

-- kinds of the same layer are the same
pub same_kind : (k m : StmtKind) (l : StmtKind-F StmtKind Stmt When) → out-StmtKind k ≡ l → out-StmtKind m ≡ l → k ≡ m
same_kind k m l p q = sym (roll-out-StmtKind k) ∙ ap roll-StmtKind (p ∙ sym q) ∙ roll-out-StmtKind m

pub stmt_fits-out : (s : Scope) (k : StmtKind) → StmtFits s k → LayerFits s (out-StmtKind k)
stmt_fits-out s k h = everywhere-own (LayerFits s) k h

pub stmt_fits-parts : (s : Scope) (k : StmtKind) → StmtFits s k → PartsFit s (out-StmtKind k)
stmt_fits-parts s k h = everywhere-parts (LayerFits s) k h

-- expressions

abbrev pub FitFactor : Scope → Type 0
FitFactor s = (one : Factor) × every-Factor (FactorFits s) (λ e. TermsStand e.terms) (λ j. Unit {0}) (λ t. FactorsStand t.factors) one

abbrev pub FitExpr : Scope → Type 0
FitExpr s = (one : Expr) × every-Expr (FactorFits s) (λ e. TermsStand e.terms) (λ j. Unit {0}) (λ t. FactorsStand t.factors) one

abbrev pub FitJoined : Scope → Type 0
FitJoined s = (one : Joined) × every-Joined (FactorFits s) (λ e. TermsStand e.terms) (λ j. Unit {0}) (λ t. FactorsStand t.factors) one

abbrev pub FitTerm : Scope → Type 0
FitTerm s = (one : Term) × every-Term (FactorFits s) (λ e. TermsStand e.terms) (λ j. Unit {0}) (λ t. FactorsStand t.factors) one

terms_fit : (s : Scope) (list : List (FitTerm s)) → AllByRecursion (TermFits s) (map (λ (one : FitTerm s). one.0) list)
unfolding TermFits
terms_fit s [] = tt
terms_fit s (one ∷ rest) = (one.1, terms_fit s rest)

joineds_fit : (s : Scope) (list : List (FitJoined s)) → AllByRecursion (JoinedFits s) (map (λ (one : FitJoined s). one.0) list)
unfolding JoinedFits
joineds_fit s [] = tt
joineds_fit s (one ∷ rest) = (one.1, joineds_fit s rest)

pub expr_fits-out : (s : Scope) (e : Expr) → ExprFits s e → TermsStand (out-Expr e).terms × AllByRecursion (TermFits s) (out-Expr e).terms
unfolding ExprFits
expr_fits-out s e h =
    let here = every_here-Expr (FactorFits s) (λ e. TermsStand e.terms) (λ j. Unit {0}) (λ t. FactorsStand t.factors) e h in
    let held = every_held-Expr (FactorFits s) (λ e. TermsStand e.terms) (λ j. Unit {0}) (λ t. FactorsStand t.factors) e h in
    (here, subst (λ (l : Expr-F Factor Expr Joined Term). AllByRecursion (TermFits s) l.terms) held.1 (terms_fit s held.0.terms))

pub term_fits-out : (s : Scope) (t : Term) → TermFits s t → FactorsStand (out-Term t).factors × AllByRecursion (JoinedFits s) (out-Term t).factors
unfolding TermFits
term_fits-out s t h =
    let here = every_here-Term (FactorFits s) (λ e. TermsStand e.terms) (λ j. Unit {0}) (λ t. FactorsStand t.factors) t h in
    let held = every_held-Term (FactorFits s) (λ e. TermsStand e.terms) (λ j. Unit {0}) (λ t. FactorsStand t.factors) t h in
    (here, subst (λ (l : Term-F Factor Expr Joined Term). AllByRecursion (JoinedFits s) l.factors) held.1 (joineds_fit s held.0.factors))

pub joined_fits-out : (s : Scope) (j : Joined) → JoinedFits s j → FactorOwnFits s j.factor
unfolding JoinedFits FactorOwnFits
joined_fits-out s j h =
    let held = every_held-Joined (FactorFits s) (λ e. TermsStand e.terms) (λ j. Unit {0}) (λ t. FactorsStand t.factors) j h in
    subst (λ (l : Joined-F Factor Expr Joined Term). FactorOwnFits s l.factor) held.1 held.0.factor.1

inside_fits : (s : Scope) (l : Factor-F (FitFactor s) (FitExpr s) (FitJoined s) (FitTerm s))
    → InsideFits s (map-Factor (FitFactor s) (FitExpr s) (FitJoined s) (FitTerm s) Factor Expr Joined Term
    (λ one. one.0) (λ one. one.0) (λ one. one.0) (λ one. one.0) l)
unfolding ExprFits
inside_fits s (Bracket e) = e.1
inside_fits s _ = tt

pub factor_fits-out : (s : Scope) (f : Factor) → FactorOwnFits s f → FactorFits s (out-Factor f) × InsideFits s (out-Factor f)
unfolding FactorOwnFits
factor_fits-out s f h =
    let here = every_here-Factor (FactorFits s) (λ e. TermsStand e.terms) (λ j. Unit {0}) (λ t. FactorsStand t.factors) f h in
    let held = every_held-Factor (FactorFits s) (λ e. TermsStand e.terms) (λ j. Unit {0}) (λ t. FactorsStand t.factors) f h in
    (here, subst (λ (l : Factor-F Factor Expr Joined Term). InsideFits s l) held.1 (inside_fits s held.0))
