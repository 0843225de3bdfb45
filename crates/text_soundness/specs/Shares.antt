-- What one layer of a statement of an exchange keeps, in two shares: what its names stand for, and
-- how its parts stand to one another.
use Rattle.std.specs.Prelude.{◌≤◌, map, nat_eq}
use Rattle.std.specs.List.{AllByRecursion, IsDistinct}
use Rattle.plex_limits.specs.declared.limits.TheConstants.{MOST_BRACKETS, MOST_OPERANDS}
use Rattle.exchange_model.specs.declared.stmt.When.{out-When}
use Rattle.exchange_model.specs.declared.stmt.StmtKind.TheOpen as layer
use Rattle.exchange_model.specs.Inside.{own_exprs, bracket_depth, operand_count, total}
use Rattle.exchange_model.specs.Fits.{Scope, KindNames, ExprFits, ListsFit}
use Rattle.exchange_model.specs.Everywhere.{Layer}

-- names

-- what a statement names is of the block, but for how often a CASE has a number
abbrev pub NamesOf : Scope → Layer → Type 0
NamesOf s (layer.Case value whens otherwise) = Unit {0}
NamesOf s l = KindNames s l

pub record NamesStand (s : Scope) (l : Layer) : Type 0 where
  pub names : NamesOf s l
  pub exprs : AllByRecursion (ExprFits s) (own_exprs l)

-- parts

-- a CASE has each number once
abbrev pub ChoosesOnce : Layer → Type 0
ChoosesOnce (layer.Case value whens otherwise) =
    IsDistinct nat_eq (map (λ w. (out-When w).number) whens)
ChoosesOnce _ = Unit {0}

pub record PartsStand (s : Scope) (l : Layer) : Type 0 where
  pub chosen : ChoosesOnce l
  pub shallow : AllByRecursion (λ e. bracket_depth e ≤ MOST_BRACKETS) (own_exprs l)
  pub few : total (map operand_count (own_exprs l)) ≤ MOST_OPERANDS
  pub lists : ListsFit s l
