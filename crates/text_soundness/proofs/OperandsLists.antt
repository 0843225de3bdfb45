-- The expressions of a statement: conditions, and lists of values.
use Rattle.std.proofs.Common.{◌≡◌, ℕ, ◌+◌, ◌≤◌, List, [], ◌∷◌, ◌++◌, map, subst, arith, Some, None}
use Rattle.std.proofs.Common.{Option, IfSome}
use Rattle.std.specs.List.{AllByRecursion}
use Rattle.plex_ast.specs.declared.expr.Expr.{Expr}
use Rattle.plex_ast.specs.declared.expr.Exprs.{Exprs}
use Rattle.plex_ast.specs.declared.expr.Cond.{Cond}
use Rattle.plex_ast.specs.declared.expr.Conj.{Conj}
use Rattle.plex_ast.specs.declared.expr.Relation.{Relation}
use Rattle.exchange_model.specs.declared.expr.Expr.{Expr as MExpr}
use Rattle.exchange_model.specs.Inside.{total, joined, bracket_depth, operand_count, relation_exprs}
use Rattle.exchange_model.specs.Inside.{cond_exprs}
use Rattle.text_events.specs.Note.{Event}
use Rattle.text_events.specs.Walk.{OwnWalk, each_walk, expr_walk, relation_walk, conj_walk}
use Rattle.text_events.specs.Walk.{cond_walk, values_walk}
use Rattle.kept_trees.specs.Keeps.{Every, KeepsExpr, KeepsRelation, KeepsConj, KeepsCond}
use Rattle.kept_trees.specs.Keeps.{KeepsExprs}
use Rattle.resolved_block.specs.Names.{Env}
use Rattle.resolved_block.specs.Expressions.{typed_expr, typed_relation, typed_conj, typed_cond}
use Rattle.resolved_block.specs.Expressions.{typed_values}
use Rattle.text_soundness.proofs.BuiltText.{Begin, begin_all}
use Rattle.text_soundness.proofs.Operands.{Gives, gives_none, gives_then, expr_good}

pub gives_within : (o n : ℕ) (a b c : List Event) → Begin a b → Gives o n b c → Gives o n a c
gives_within o n a b c x g = subst (λ k. Gives o k a c) (omega arith) (gives_then o 0 n a b c (gives_none o a b x) g)

pub gives_on : (o n : ℕ) (a b c : List Event) → Gives o n a b → Begin b c → Gives o n a c
gives_on o n a b c g x = subst (λ k. Gives o k a c) (omega arith) (gives_then o n 0 a b c g (gives_none o b c x))

-- a walk within a statement, with the expressions that stand there
pub record ExprsGood (w : OwnWalk) (es : List MExpr) : Type 0 where
  pub shallow : AllByRecursion (λ e. bracket_depth e ≤ 6) es
  pub gives : (o : ℕ) (out : List Event) → Gives o (total (map operand_count es)) out (w o out)

pub exprs_none : ExprsGood (λ o out. out) []
exprs_none = record { shallow = tt; gives = λ o out. gives_none o out out (begin_all out) }

all_append : (es fs : List MExpr) → AllByRecursion (λ e. bracket_depth e ≤ 6) es
    → AllByRecursion (λ e. bracket_depth e ≤ 6) fs → AllByRecursion (λ e. bracket_depth e ≤ 6) (es ++ fs)
all_append [] fs all more = more
all_append (e ∷ es) fs all more = (all.0, all_append es fs all.1 more)

total_append : (es fs : List MExpr) → total (map operand_count (es ++ fs)) ≡ total (map operand_count es) + total (map operand_count fs)
total_append [] fs = omega arith
total_append (e ∷ es) fs = rw (total_append es fs) (omega arith)

pub exprs_then : (w v : OwnWalk) (es fs : List MExpr) → ExprsGood w es → ExprsGood v fs → ExprsGood (λ o out. v o (w o out)) (es ++ fs)
exprs_then w v es fs g h = record {
  shallow = all_append es fs g.shallow h.shallow;
  gives = λ o out. rw (total_append es fs) (gives_then o _ _ out (w o out) (v o (w o out)) (g.gives o out) (h.gives o (w o out)));
}

module _ (env : Env) where
  pub expr_one : (e : Expr) → KeepsExpr 6 e → ExprsGood (expr_walk e) (typed_expr env e ∷ [])
  expr_one e k =
      let good = expr_good env 6 e k in
      record { shallow = (good.shallow, tt); gives = λ o out. subst (λ n. Gives o n out (expr_walk e o out)) (omega arith) (good.gives o out) }

  pub exprs_each : (es : List Expr) → Every (KeepsExpr 6) es → ExprsGood (each_walk (map expr_walk es)) (map (typed_expr env) es)
  exprs_each [] all = exprs_none
  exprs_each (e ∷ es) all = exprs_then (expr_walk e) (each_walk (map expr_walk es)) (typed_expr env e ∷ [])
      (map (typed_expr env) es) (expr_one e all.0) (exprs_each es all.1)

  pub values_good : (es : Option Exprs) → IfSome es (KeepsExprs 6) → ExprsGood (values_walk es) (typed_values env es)
  values_good None k = exprs_none
  values_good (Some x) k = exprs_each (x.first ∷ x.rest) k

  relations_good : (rs : List Relation) → Every (KeepsRelation 6) rs
      → ExprsGood (each_walk (map relation_walk rs)) (relation_exprs (map (typed_relation env) rs))
  relations_good [] all = exprs_none
  relations_good (r ∷ rs) all =
      exprs_then (relation_walk r) (each_walk (map relation_walk rs))
      (typed_expr env r.left ∷ typed_expr env r.right ∷ []) (relation_exprs (map (typed_relation env) rs))
      (exprs_then (expr_walk r.left) (expr_walk r.right) (typed_expr env r.left ∷ []) (typed_expr env r.right ∷ [])
      (expr_one r.left all.0.0) (expr_one r.right all.0.1))
      (relations_good rs all.1)

  conj_good : (c : Conj) → KeepsConj 6 c → ExprsGood (conj_walk c) (relation_exprs (typed_conj env c))
  conj_good c k = relations_good (c.first ∷ c.rest) k

  conjs_good : (cs : List Conj) → Every (KeepsConj 6) cs → ExprsGood (each_walk (map conj_walk cs)) (joined (map relation_exprs (map (typed_conj env) cs)))
  conjs_good [] all = exprs_none
  conjs_good (c ∷ cs) all = exprs_then (conj_walk c) (each_walk (map conj_walk cs)) (relation_exprs (typed_conj env c))
      _ (conj_good c all.0) (conjs_good cs all.1)

  pub cond_good : (c : Cond) → KeepsCond 6 c → ExprsGood (cond_walk c) (cond_exprs (typed_cond env c))
  cond_good c k = conjs_good (c.first ∷ c.rest) k
