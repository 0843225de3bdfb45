-- The statements and expressions in one layer are of the block: each kind of part by itself.
use Rattle.std.specs.Prelude.{List}
use Rattle.exchange_model.specs.declared.expr.Expr.{Expr}
use Rattle.exchange_model.specs.declared.expr.Term.{Term, every-Term}
use Rattle.exchange_model.specs.declared.expr.Joined.{Joined, every-Joined}
use Rattle.exchange_model.specs.declared.expr.Factor.{Factor, Factor-F, every-Factor}
use Rattle.exchange_model.specs.declared.expr.Factor.TheOpen.{Bracket}
use Rattle.exchange_model.specs.declared.stmt.Stmt.{Stmt}
use Rattle.exchange_model.specs.declared.stmt.When.{When}
use Rattle.exchange_model.specs.declared.stmt.StmtKind.{StmtKind-F}
use Rattle.exchange_model.specs.Everywhere.{AllIn, PartsKeep}
use Rattle.exchange_model.specs.Fits.{Scope, LayerFits, FactorFits, TermsStand, FactorsStand}
use Rattle.exchange_model.specs.Fits.{ExprFits}

-- all of these statements, with all those in them, are of the block
abbrev pub StmtsFit : Scope → List Stmt → Type 0
StmtsFit s list = AllIn (LayerFits s) list

-- the statements in one layer
abbrev pub PartsFit : {K : Type 0} → Scope → StmtKind-F K Stmt When → Type 0
PartsFit s l = PartsKeep (LayerFits s) l

-- a term of the block
unfoldable pub TermFits : Scope → Term → Type 0
TermFits s = every-Term (FactorFits s) (λ e. TermsStand e.terms) (λ j. Unit {0})
    (λ t. FactorsStand t.factors)

-- a factor of the block, with how it is joined
unfoldable pub JoinedFits : Scope → Joined → Type 0
JoinedFits s = every-Joined (FactorFits s) (λ e. TermsStand e.terms) (λ j. Unit {0})
    (λ t. FactorsStand t.factors)

-- a factor of the block, with all that is in its brackets
unfoldable pub FactorOwnFits : Scope → Factor → Type 0
FactorOwnFits s = every-Factor (FactorFits s) (λ e. TermsStand e.terms) (λ j. Unit {0})
    (λ t. FactorsStand t.factors)

-- what is in brackets
abbrev pub InsideFits : {A B C : Type 0} → Scope → Factor-F A Expr B C → Type 0
InsideFits s (Bracket e) = ExprFits s e
InsideFits s _ = Unit {0}
