-- The expressions of a statement as they are kept.
use Rattle.std.specs.Prelude.{◌≡◌, List, [], ◌∷◌, ◌++◌, map}
use Rattle.exchange_model.specs.declared.expr.Expr.{Expr}
use Rattle.exchange_model.specs.Inside.{cond_exprs}
use Rattle.entry_faults.specs.declared.exprs.ExprAt.{ExprAt}
use Rattle.entry_faults.specs.declared.exprs.Exprs.{Exprs}
use Rattle.entry_faults.specs.declared.exprs.Exprs.TheVariants as exprs

abbrev pub expr_seen : ExprAt → Expr
expr_seen e = e.expr.now

abbrev pub exprs_seen : Exprs → List Expr
exprs_seen exprs.None = []
exprs_seen (exprs.One e) = e.now ∷ []
exprs_seen (exprs.Two e f) = e.now ∷ f.now ∷ []
exprs_seen (exprs.Condition c) = cond_exprs c.now
exprs_seen (exprs.Values es) = es.now

-- a list that has these expressions more
pub record AddsExprs (old new : List ExprAt) (added : List Expr) : Type 0 where
  pub is : map expr_seen new ≡ map expr_seen old ++ added
