-- Conditions, and what stands after WITH.
use Rattle.std.proofs.Common.{◌≡◌, ℕ, List, [], ◌∷◌, length, map, Option, Some, None, refl, sym, ap}
use Rattle.std.proofs.Common.{suc}
use Rattle.std.specs.Prelude.{IfSome}
use Rattle.std.specs.List.{AllByRecursion}
use Rattle.std.proofs.lemmas.List.{length-map}
use Rattle.token_grammar.specs.declared.named.Named.{Named}
use Rattle.plex_ast.specs.declared.expr.Expr.{Expr}
use Rattle.plex_ast.specs.declared.expr.Relation.{Relation}
use Rattle.plex_ast.specs.declared.expr.Conj.{Conj}
use Rattle.plex_ast.specs.declared.expr.Cond.{Cond}
use Rattle.plex_ast.specs.declared.expr.Exprs.{Exprs}
use Rattle.plex_ast.specs.declared.stmt.Names.{Names}
use Rattle.kept_trees.specs.Keeps.{KeepsExpr, KeepsRelation, KeepsConj, KeepsCond, KeepsExprs}
use Rattle.exchange_model.specs.Fits.{Scope, ExprFits, IsFilled, CondStands, NamesFit, IsTemporary}
use Rattle.exchange_model.specs.Inside.{joined, relation_exprs, cond_exprs}
use Rattle.text_events.specs.Note.{Note}
use Rattle.text_events.specs.Note.{Uses}
use Rattle.text_events.specs.declared.role.Need.TheVariants as need
use Rattle.text_events.specs.Walk.{expr_walk, relation_walk, conj_walk, cond_walk, names_of}
use Rattle.text_events.specs.Walk.{values_of, name_walk, names_walk, values_walk}
use Rattle.resolved_block.specs.Names.{Env}
use Rattle.resolved_block.specs.Meant.{temporary_in}
use Rattle.resolved_block.specs.Expressions.{typed_expr, typed_relation, typed_conj, typed_cond}
use Rattle.resolved_block.specs.Expressions.{typed_values, typed_temps}
use Rattle.resolved_block.specs.Meant.{temporary_of}
use Rattle.text_soundness.proofs.ServedWalks.{Tells, tells_none, tells_add, tells_then, tells_so}
use Rattle.text_soundness.proofs.ServedWalks.{tells_each, tells_in_turn}
use Rattle.text_soundness.proofs.NamedExprs.{all_made}
use Rattle.plex_num.proofs.Lists.{all_append}

-- no list of a condition is empty
conjs_filled : (env : Env) (cs : List Conj) → AllByRecursion IsFilled (map (typed_conj env) cs)
conjs_filled env [] = tt
conjs_filled env (c ∷ cs) = (tt, conjs_filled env cs)

pub cond_stands : (env : Env) (c : Cond) → CondStands (typed_cond env c)
cond_stands env c = (tt, (tt, conjs_filled env c.rest))

pub values_count : (env : Env) (es : Option Exprs) → length (values_of es) ≡ length (typed_values env es)
values_count env None = refl
values_count env (Some es) = ap suc (sym (length-map es.rest (typed_expr env)))

pub temps_count : (env : Env) (ns : Option Names) → length (names_of ns) ≡ length (typed_temps env ns)
temps_count env None = refl
temps_count env (Some ns) = ap suc (sym (length-map ns.rest (temporary_of env)))

-- an expression is of the block, where the walk over it tells so
module _ (P : Note → Type 0) (s : Scope) (env : Env) (b : ℕ)
    (one : (e : Expr) → KeepsExpr b e → (owner : ℕ) → Tells P (expr_walk e owner) (ExprFits s (typed_expr env e))) where
  abbrev RelationFits : Relation → Type 0
  RelationFits r = ExprFits s (typed_expr env r.left) × ExprFits s (typed_expr env r.right)

  relation_tells : (r : Relation) → KeepsRelation b r → (owner : ℕ) → Tells P (relation_walk r owner) (RelationFits r)
  relation_tells r kept owner = tells_then P _ _ _ _ (one r.left kept.0 owner) (one r.right kept.1 owner)

  relations_fit : (rs : List Relation) → AllByRecursion RelationFits rs → AllByRecursion (ExprFits s) (relation_exprs (map (typed_relation env) rs))
  relations_fit [] all = tt
  relations_fit (r ∷ rs) all = (all.0.0, (all.0.1, relations_fit rs all.1))

  abbrev ConjFits : Conj → Type 0
  ConjFits c = AllByRecursion (ExprFits s) (relation_exprs (typed_conj env c))

  conj_tells : (c : Conj) → KeepsConj b c → (owner : ℕ) → Tells P (conj_walk c owner) (ConjFits c)
  conj_tells c kept owner =
      tells_so P _ _ _ (λ x. (x.0.0, (x.0.1, relations_fit c.rest x.1)))
      (tells_then P _ _ _ _ (relation_tells c.first kept.0 owner)
      (tells_each P relation_walk (KeepsRelation b) RelationFits c.rest owner kept.1
      (λ r k. relation_tells r k owner)))

  conjs_fit : (cs : List Conj) → AllByRecursion ConjFits cs → AllByRecursion (ExprFits s) (joined (map relation_exprs (map (typed_conj env) cs)))
  conjs_fit [] all = tt
  conjs_fit (c ∷ cs) all = all_append (ExprFits s) (relation_exprs (typed_conj env c))
      (joined (map relation_exprs (map (typed_conj env) cs))) all.0 (conjs_fit cs all.1)

  pub cond_tells : (c : Cond) → KeepsCond b c → (owner : ℕ) → Tells P (cond_walk c owner) (AllByRecursion (ExprFits s) (cond_exprs (typed_cond env c)))
  cond_tells c kept owner =
      tells_so P _ _ _ (λ x. all_append (ExprFits s) (relation_exprs (typed_conj env c.first))
      (joined (map relation_exprs (map (typed_conj env) c.rest))) x.0 (conjs_fit c.rest x.1))
      (tells_then P _ _ _ _ (conj_tells c.first kept.0 owner) (tells_each P conj_walk (KeepsConj b) ConjFits c.rest owner kept.1 (λ r k. conj_tells r k owner)))

  pub values_tell : (es : Option Exprs) → IfSome es (KeepsExprs b) → (owner : ℕ)
      → Tells P (values_walk es owner) (AllByRecursion (ExprFits s) (typed_values env es))
  values_tell None kept owner = tells_so P _ _ _ (λ x. tt) (tells_none P)
  values_tell (Some es) kept owner =
      tells_so P _ _ _ (λ x. (x.0, all_made (typed_expr env) (ExprFits s) es.rest x.1))
      (tells_each P expr_walk (KeepsExpr b) (λ e. ExprFits s (typed_expr env e)) (es.first ∷ es.rest) owner kept (λ e k. one e k owner))

module _ (P : Note → Type 0) (s : Scope) (env : Env) (temporary : (n : List ℕ) → P (Uses n need.Temporary) → IsTemporary s (temporary_in (env.name n))) where
  pub name_tells : (n : Named) → Tells P (name_walk n) (IsTemporary s (temporary_in (env.name n.name)))
  name_tells n = tells_so P _ _ _ (temporary n.name) (tells_add P n.line (Uses n.name need.Temporary))

  pub names_tell : (ns : Option Names) → Tells P (names_walk ns) (NamesFit s (typed_temps env ns))
  names_tell None = tells_so P _ _ _ (λ x. tt) (tells_none P)
  names_tell (Some ns) =
      tells_so P _ _ _ (λ x. (x.0, all_made (temporary_of env) (IsTemporary s) ns.rest x.1))
      (tells_in_turn P name_walk (λ n. IsTemporary s (temporary_in (env.name n.name))) (ns.first ∷ ns.rest) name_tells)
