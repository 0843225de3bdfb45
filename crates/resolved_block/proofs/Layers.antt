-- One layer of each fold, opened.
use Rattle.std.proofs.Common.{◌≡◌, false, true, List, ◌∷◌, map, refl, sym, ◌∙◌, ap}
use Rattle.plex_ast.specs.declared.expr.Expr.{Expr, fold_out-Expr}
use Rattle.plex_ast.specs.declared.expr.Added.{Added, out-Added, fold_out-Added, map-Added}
use Rattle.plex_ast.specs.declared.expr.Added.TheOpen.{Added-F, FactorKind-F, Multiplied-F, Plus}
use Rattle.plex_ast.specs.declared.expr.Added.TheOpen.{Minus, Times, Over, Mod, Number, Name, Field}
use Rattle.plex_ast.specs.declared.expr.Added.TheOpen.{Bracket, Reference}
use Rattle.plex_ast.specs.declared.expr.Term.{Term, fold_out-Term}
use Rattle.plex_ast.specs.declared.expr.Multiplied.{Multiplied, out-Multiplied, fold_out-Multiplied}
use Rattle.plex_ast.specs.declared.expr.Multiplied.{map-Multiplied}
use Rattle.plex_ast.specs.declared.expr.Factor.{Factor, fold_out-Factor}
use Rattle.plex_ast.specs.declared.expr.FactorKind.{FactorKind, out-FactorKind, fold_out-FactorKind}
use Rattle.plex_ast.specs.declared.expr.FactorKind.{map-FactorKind}
use Rattle.exchange_model.specs.declared.expr.Expr.{Expr as MExpr, roll-Expr}
use Rattle.exchange_model.specs.declared.expr.Term.{Term as MTerm}
use Rattle.exchange_model.specs.declared.expr.Joined.{Joined as MJoined}
use Rattle.exchange_model.specs.declared.expr.Factor.{Factor as MFactor}
use Rattle.exchange_model.specs.declared.expr.Factor.TheVariants as factor
use Rattle.exchange_model.specs.declared.expr.FactorOp.TheVariants as op
use Rattle.resolved_block.specs.Names.{Env}
use Rattle.resolved_block.specs.Expressions.{joined, product, sum_of, field_of, factor_kind_layer}
use Rattle.resolved_block.specs.Expressions.{multiplied_layer, added_layer, expr_layer}
use Rattle.resolved_block.specs.Expressions.{factor_layer, term_layer, typed_added}
use Rattle.resolved_block.specs.Expressions.{typed_factor_kind, typed_multiplied, typed_expr}
use Rattle.resolved_block.specs.Expressions.{typed_factor, typed_term}
use Rattle.resolved_block.specs.Meant.{value_in, block_of}

-- one layer of each, in which the parts are those of the tree
abbrev pub factor_at : Env → FactorKind-F Added FactorKind Multiplied Expr Factor Term → MFactor
factor_at env (Number n) = factor.Number n.value
factor_at env (Name n) = value_in (env.name n.name)
factor_at env (Field n pointer) = field_of env n pointer
factor_at env (Bracket e) = factor.Bracket (typed_expr env e)
factor_at env (Reference n) = factor.Reference (block_of env n)

abbrev pub multiplied_at : Env → Multiplied-F Added FactorKind Multiplied Expr Factor Term → MJoined
multiplied_at env (Times f) = joined op.Times (typed_factor env f)
multiplied_at env (Over f) = joined op.Divide (typed_factor env f)
multiplied_at env (Mod f) = joined op.Modulo (typed_factor env f)

abbrev pub added_at : Env → Added-F Added FactorKind Multiplied Expr Factor Term → MTerm
added_at env (Plus t) = product false (typed_term env t)
added_at env (Minus t) = product true (typed_term env t)

module _ (env : Env) where
  pub typed_expr-out : (e : Expr) → typed_expr env e ≡ sum_of (product false (typed_term env e.first) ∷ map (typed_added env) e.rest)
  unfolding typed_added typed_factor_kind typed_multiplied typed_expr typed_factor typed_term
  typed_expr-out e = fold_out-Expr MTerm MFactor MJoined MExpr MFactor (List MJoined) added_layer
      (factor_kind_layer env) multiplied_layer expr_layer factor_layer term_layer e

  pub typed_term-out : (t : Term) → typed_term env t ≡ joined op.Times (typed_factor env t.first) ∷ map (typed_multiplied env) t.rest
  unfolding typed_added typed_factor_kind typed_multiplied typed_expr typed_factor typed_term
  typed_term-out t = fold_out-Term MTerm MFactor MJoined MExpr MFactor (List MJoined) added_layer
      (factor_kind_layer env) multiplied_layer expr_layer factor_layer term_layer t

  pub typed_factor-out : (f : Factor) → typed_factor env f ≡ typed_factor_kind env f.kind
  unfolding typed_added typed_factor_kind typed_multiplied typed_expr typed_factor typed_term
  typed_factor-out f = fold_out-Factor MTerm MFactor MJoined MExpr MFactor (List MJoined) added_layer
      (factor_kind_layer env) multiplied_layer expr_layer factor_layer term_layer f

  added_parts : (l : Added-F Added FactorKind Multiplied Expr Factor Term)
      → added_layer (map-Added Added FactorKind Multiplied Expr Factor Term MTerm MFactor MJoined MExpr MFactor
      (List MJoined) (typed_added env) (typed_factor_kind env) (typed_multiplied env) (typed_expr env)
      (typed_factor env) (typed_term env) l) ≡ added_at env l
  added_parts (Plus t) = refl
  added_parts (Minus t) = refl

  pub typed_added-out : (a : Added) → typed_added env a ≡ added_at env (out-Added a)
  unfolding typed_added typed_factor_kind typed_multiplied typed_expr typed_factor typed_term
  typed_added-out a = fold_out-Added MTerm MFactor MJoined MExpr MFactor (List MJoined) added_layer
      (factor_kind_layer env) multiplied_layer expr_layer factor_layer term_layer a ∙ added_parts (out-Added a)

  multiplied_parts : (l : Multiplied-F Added FactorKind Multiplied Expr Factor Term)
      → multiplied_layer (map-Multiplied Added FactorKind Multiplied Expr Factor Term MTerm MFactor MJoined MExpr
      MFactor (List MJoined) (typed_added env) (typed_factor_kind env) (typed_multiplied env) (typed_expr env)
      (typed_factor env) (typed_term env) l) ≡ multiplied_at env l
  multiplied_parts (Times f) = refl
  multiplied_parts (Over f) = refl
  multiplied_parts (Mod f) = refl

  pub typed_multiplied-out : (m : Multiplied) → typed_multiplied env m ≡ multiplied_at env (out-Multiplied m)
  unfolding typed_added typed_factor_kind typed_multiplied typed_expr typed_factor typed_term
  typed_multiplied-out m = fold_out-Multiplied MTerm MFactor MJoined MExpr MFactor (List MJoined) added_layer
      (factor_kind_layer env) multiplied_layer expr_layer factor_layer term_layer m
      ∙ multiplied_parts (out-Multiplied m)

  factor_parts : (l : FactorKind-F Added FactorKind Multiplied Expr Factor Term)
      → factor_kind_layer env (map-FactorKind Added FactorKind Multiplied Expr Factor Term MTerm MFactor MJoined MExpr
      MFactor (List MJoined) (typed_added env) (typed_factor_kind env) (typed_multiplied env) (typed_expr env)
      (typed_factor env) (typed_term env) l) ≡ factor_at env l
  factor_parts (Number n) = refl
  factor_parts (Name n) = refl
  factor_parts (Field n pointer) = refl
  factor_parts (Bracket e) = refl
  factor_parts (Reference n) = refl

  pub typed_factor_kind-out : (k : FactorKind) → typed_factor_kind env k ≡ factor_at env (out-FactorKind k)
  unfolding typed_added typed_factor_kind typed_multiplied typed_expr typed_factor typed_term
  typed_factor_kind-out k = fold_out-FactorKind MTerm MFactor MJoined MExpr MFactor (List MJoined) added_layer
      (factor_kind_layer env) multiplied_layer expr_layer factor_layer term_layer k ∙ factor_parts (out-FactorKind k)

  -- a value that was made of its parts

  pub expr_made : (e : Expr) (factors : List MJoined) (terms : List MTerm) → factors ≡ typed_term env e.first
      → terms ≡ product false factors ∷ map (typed_added env) e.rest
      → roll-Expr (record { terms = terms }) ≡ typed_expr env e
  expr_made e factors terms first all = ap sum_of (all ∙ ap (λ fs. product false fs ∷ map (typed_added env) e.rest) first) ∙ sym (typed_expr-out e)

  pub term_made : (t : Term) (factor : MFactor) (factors : List MJoined) → factor ≡ typed_factor env t.first
      → factors ≡ joined op.Times factor ∷ map (typed_multiplied env) t.rest → factors ≡ typed_term env t
  term_made t factor factors first all = all ∙ ap (λ f. joined op.Times f ∷ map (typed_multiplied env) t.rest) first ∙ sym (typed_term-out t)

  pub factor_made : (f : Factor) (factor : MFactor) → factor ≡ typed_factor_kind env f.kind → factor ≡ typed_factor env f
  factor_made f factor is = is ∙ sym (typed_factor-out f)

  pub added_is : (a : Added) (l : Added-F Added FactorKind Multiplied Expr Factor Term) → out-Added a ≡ l → typed_added env a ≡ added_at env l
  added_is a l is = typed_added-out a ∙ ap (added_at env) is

  pub multiplied_is : (m : Multiplied) (l : Multiplied-F Added FactorKind Multiplied Expr Factor Term)
      → out-Multiplied m ≡ l → typed_multiplied env m ≡ multiplied_at env l
  multiplied_is m l is = typed_multiplied-out m ∙ ap (multiplied_at env) is

  pub factor_kind_is : (k : FactorKind) (l : FactorKind-F Added FactorKind Multiplied Expr Factor Term)
      → out-FactorKind k ≡ l → typed_factor_kind env k ≡ factor_at env l
  factor_kind_is k l is = typed_factor_kind-out k ∙ ap (factor_at env) is
