-- What is done and evaluated is of the texts of an exchange, whose CASEs find their own tables.
use Rattle.std.specs.Prelude.{◌≤◌, List, length}
use Rattle.std.specs.List.{AllByRecursion}
use Rattle.plex_limits.specs.declared.limits.TheConstants.{MOST_BLOCKS}
use Rattle.exchange_model.specs.declared.expr.Cond.{Cond}
use Rattle.exchange_model.specs.declared.expr.Expr.{Expr}
use Rattle.exchange_model.specs.declared.expr.Factor.{Factor}
use Rattle.exchange_model.specs.declared.expr.Joined.{Joined}
use Rattle.exchange_model.specs.declared.expr.Relation.{Relation}
use Rattle.exchange_model.specs.declared.expr.Term.{Term}
use Rattle.exchange_model.specs.declared.stmt.Stmt.{Stmt}
use Rattle.exchange_model.specs.declared.stmt.When.{When, out-When}
use Rattle.exchange_model.specs.Fits.{Scope, ExprFits, StmtFits}
use Rattle.exchange_model.specs.Kept.{SignalsKept}
use Rattle.exchange_model.specs.PartFits.{TermFits, FactorOwnFits}
use Rattle.source_interpreter.specs.declared.cases.Cases.{Cases}
use Rattle.source_interpreter.specs.declared.work.Part.{Part}
use Rattle.source_interpreter.specs.declared.work.Part.TheVariants as part
use Rattle.source_interpreter.specs.declared.work.Next.{Next}
use Rattle.source_interpreter.specs.declared.work.Next.TheVariants as next
use Rattle.source_interpreter.specs.Cases.{IsKnown}

-- it fits some scope of an exchange
pub record IsOf {X : Type 0} (Fits : Scope → X → Type 0) (x : X) : Type 0 where
  pub scope : Scope
  pub signals : SignalsKept scope.signals
  pub few : length scope.blocks ≤ MOST_BLOCKS
  pub fits : Fits scope x

-- an expression, a term and a factor
abbrev pub IsExprOfText : Expr → Type 0
IsExprOfText e = IsOf ExprFits e

abbrev pub AreExprsOfText : List Expr → Type 0
AreExprsOfText es = AllByRecursion IsExprOfText es

abbrev pub AreTermsOfText : List Term → Type 0
AreTermsOfText ts = AllByRecursion (λ t. IsOf TermFits t) ts

abbrev pub IsFactorOfText : Factor → Type 0
IsFactorOfText f = IsOf FactorOwnFits f

abbrev pub AreFactorsOfText : List Joined → Type 0
AreFactorsOfText js = AllByRecursion (λ (j : Joined). IsFactorOfText j.factor) js

-- both sides of a relation, of each of a list, and of each of a condition
abbrev pub IsRelationOfText : Relation → Type 0
IsRelationOfText r = IsExprOfText r.left × IsExprOfText r.right

abbrev pub AreRelationsOfText : List Relation → Type 0
AreRelationsOfText rs = AllByRecursion IsRelationOfText rs

abbrev pub IsCondOfText : Cond → Type 0
IsCondOfText c = AllByRecursion AreRelationsOfText c.any

-- a statement, with those in it, which find their own tables
pub record IsOfText (cases : Cases) (s : Stmt) : Type 0 where
  pub scope : Scope
  pub signals : SignalsKept scope.signals
  pub few : length scope.blocks ≤ MOST_BLOCKS
  pub fits : StmtFits scope s.kind
  pub known : IsKnown cases s

abbrev pub AreOfText : Cases → List Stmt → Type 0
AreOfText cases statements = AllByRecursion (IsOfText cases) statements

-- so is each choice of a CASE
abbrev pub AreWhensOfText : Cases → List When → Type 0
AreWhensOfText cases whens = AllByRecursion (λ w. AreOfText cases (out-When w).body) whens

-- a part of what remains is made of statements of an exchange, beside the tables of that
abbrev pub IsKept : Part → Type 0
IsKept (part.Rest first others cases) =
    IsOfText cases.now first.now × AreOfText cases.now others.now
IsKept (part.Start statement) = Unit {0}
IsKept (part.Turns point temp this end body cases) = AreOfText cases.now body.now

abbrev pub AreKept : List Part → Type 0
AreKept parts = AllByRecursion IsKept parts

-- so is what comes next
abbrev pub IsNextKept : Next → Type 0
IsNextKept (next.Do statement cases) = IsOfText cases.now statement.now
IsNextKept (next.Start statement) = Unit {0}
IsNextKept (next.Turn point temp this end body cases) = AreOfText cases.now body.now
