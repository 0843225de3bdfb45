-- Where the uses in an expression serve, the expression is of the block.
use Rattle.std.proofs.Common.{ℕ, ◌<◌, ◌^◌, Bool, true, false, List, [], ◌∷◌, map, refl, sym, ◌∙◌}
use Rattle.std.proofs.Common.{ap, subst, suc, zero}
use Rattle.std.specs.Prelude.{unwrap_or}
use Rattle.std.specs.List.{AllByRecursion}
use Rattle.text_rules.specs.Surveys.{block_named}
use Rattle.plex_ast.specs.declared.expr.Expr.{Expr}
use Rattle.plex_ast.specs.declared.expr.Term.{Term}
use Rattle.plex_ast.specs.declared.expr.Factor.{Factor}
use Rattle.plex_ast.specs.declared.expr.Added.{Added, out-Added}
use Rattle.plex_ast.specs.declared.expr.Multiplied.{Multiplied, out-Multiplied}
use Rattle.plex_ast.specs.declared.expr.FactorKind.{FactorKind, out-FactorKind}
use Rattle.plex_ast.specs.declared.expr.Added.TheOpen as tree
use Rattle.kept_trees.specs.Keeps.{KeepsFactorAt, KeepsFactorWith, KeepsMultipliedAt, KeepsTermWith}
use Rattle.kept_trees.specs.Keeps.{KeepsAddedAt, KeepsExprWith, KeepsInside, KeepsExpr}
use Rattle.exchange_model.specs.declared.expr.Expr.{Expr as MExpr, out-roll-Expr}
use Rattle.exchange_model.specs.declared.expr.Term.{Term as MTerm, out-roll-Term}
use Rattle.exchange_model.specs.declared.expr.Joined.{Joined as MJoined}
use Rattle.exchange_model.specs.declared.expr.Factor.TheVariants as factor
use Rattle.exchange_model.specs.declared.expr.FactorOp.TheVariants as op
use Rattle.exchange_model.specs.Fits.{Scope, FactorFits, TermsStand, FactorsStand, ExprFits}
use Rattle.exchange_model.specs.PartFits.{TermFits, JoinedFits, FactorOwnFits, InsideFits}
use Rattle.exchange_model.proofs.Built.{expr_fits-built, term_fits-built, joined_fits-built}
use Rattle.exchange_model.proofs.Built.{factor_fits-built}
use Rattle.text_events.specs.Note.{Note}
use Rattle.text_events.specs.Note.{Uses, Reads, Counts, Refers}
use Rattle.text_events.specs.declared.role.Need.TheVariants as need
use Rattle.text_events.specs.Walk.{expr_walk, term_walk, factor_walk, added_walk, multiplied_walk}
use Rattle.text_events.specs.Walk.{factor_walk_at, added_walk_at, multiplied_walk_at}
use Rattle.resolved_block.specs.Names.{Env}
use Rattle.resolved_block.specs.Meant.{value_in, temporary_in, field_file_in, field_place_in}
use Rattle.resolved_block.specs.Expressions.{joined, product, sum_of, typed_expr, typed_term}
use Rattle.resolved_block.specs.Expressions.{typed_factor, typed_added, typed_multiplied}
use Rattle.resolved_block.proofs.Layers.{factor_at, multiplied_at, added_at}
use Rattle.text_soundness.proofs.ServedWalks.{Tells, tells_add, tells_then, tells_so, tells_same}
use Rattle.text_soundness.proofs.ServedWalks.{tells_each}
use Rattle.text_events.proofs.Layers.{expr_walk-out, term_walk-out, factor_walk-out}
use Rattle.text_events.proofs.Layers.{factor_kind_walk-out, added_walk-out, multiplied_walk-out}
use Rattle.text_events.proofs.Layers.{opened_factor, opened_added, opened_multiplied}
use Rattle.resolved_block.proofs.Layers.{typed_expr-out, typed_term-out, typed_factor-out}
use Rattle.resolved_block.proofs.Layers.{typed_added-out, typed_multiplied-out}
use Rattle.resolved_block.proofs.Layers.{typed_factor_kind-out}

pub number_own : (s : Scope) (n : ℕ) → n < 2 ^ 32 → FactorOwnFits s (factor.Number n)
number_own s n h = factor_fits-built s (factor.Number n) (subst (FactorFits s) (sym (factor.outs-Number n)) h)
    (subst (InsideFits s) (sym (factor.outs-Number n)) tt)

pub bracket_own : (s : Scope) (e : MExpr) → ExprFits s e → FactorOwnFits s (factor.Bracket e)
bracket_own s e h = factor_fits-built s (factor.Bracket e) (subst (FactorFits s) (sym (factor.outs-Bracket e)) tt)
    (subst (InsideFits s) (sym (factor.outs-Bracket e)) h)

-- a product, and a sum, of parts that are of the block

product_fits : (s : Scope) (minus : Bool) (factors : List MJoined) → FactorsStand factors
    → AllByRecursion (JoinedFits s) factors → TermFits s (product minus factors)
product_fits s minus factors stand all =
    let r = out-roll-Term (record { minus = minus; factors = factors }) in
    term_fits-built s (product minus factors) (subst (λ l. FactorsStand l.factors) (sym r) stand)
    (subst (λ l. AllByRecursion (JoinedFits s) l.factors) (sym r) all)

sum_fits : (s : Scope) (terms : List MTerm) → TermsStand terms → AllByRecursion (TermFits s) terms → ExprFits s (sum_of terms)
sum_fits s terms stand all =
    let r = out-roll-Expr (record { terms = terms }) in
    expr_fits-built s (sum_of terms) (subst (λ l. TermsStand l.terms) (sym r) stand) (subst (λ l. AllByRecursion (TermFits s) l.terms) (sym r) all)

first_stands : (factors : List MJoined) (rest : List MTerm) → TermsStand (product false factors ∷ rest)
first_stands factors rest = ap (λ l. l.minus) (out-roll-Term (record { minus = false; factors = factors }))

-- each of a list, once more of the list that is made of it
pub all_made : {A B : Type 0} (f : A → B) (P : B → Type 0) (xs : List A) → AllByRecursion (λ x. P (f x)) xs → AllByRecursion P (map f xs)
all_made f P [] all = tt
all_made f P (x ∷ xs) all = (all.0, all_made f P xs all.1)

module _ (P : Note → Type 0) (s : Scope) (env : Env)
    (value : (n : List ℕ) (o : ℕ) → P (Reads n need.Value o) → FactorOwnFits s (value_in (env.name n)))
    (field : (n pointer : List ℕ) (o : ℕ) → P (Reads n need.Field o) → P (Uses pointer need.Temporary)
    → FactorOwnFits s (factor.Field (field_file_in (env.name n)) (field_place_in (env.name n))
    (temporary_in (env.name pointer)))) (block : (n : List ℕ) (o : ℕ) → P (Refers n o)
    → FactorOwnFits s (factor.Reference (unwrap_or (block_named env.blocks n) 0))) where
  module _ (I : Expr → Type 0) (inside : (e : Expr) → I e → (owner : ℕ) → Tells P (expr_walk e owner) (ExprFits s (typed_expr env e))) where
    factor_at_tells : (l : tree.FactorKind-F Added FactorKind Multiplied Expr Factor Term) → KeepsFactorAt I l
        → (owner : ℕ) → Tells P (factor_walk_at (opened_factor l) owner) (FactorOwnFits s (factor_at env l))
    factor_at_tells (tree.Number n) kept owner = tells_so P _ _ _ (λ x. number_own s n.value kept) (tells_add P n.line (Counts owner))
    factor_at_tells (tree.Name n) kept owner = tells_so P _ _ _ (value n.name owner) (tells_add P n.line (Reads n.name need.Value owner))
    factor_at_tells (tree.Field n p) kept owner =
        tells_so P _ _ _ (λ x. field n.name p.name owner x.0 x.1)
        (tells_then P _ _ _ _ (tells_add P n.line (Reads n.name need.Field owner))
        (tells_add P p.line (Uses p.name need.Temporary)))
    factor_at_tells (tree.Bracket e) kept owner = tells_so P _ _ _ (bracket_own s (typed_expr env e)) (inside e kept owner)
    factor_at_tells (tree.Reference m) kept owner = tells_so P _ _ _ (block m.name owner) (tells_add P m.line (Refers m.name owner))

    factor_tells : (f : Factor) → KeepsFactorWith I f → (owner : ℕ) → Tells P (factor_walk f owner) (FactorOwnFits s (typed_factor env f))
    factor_tells f kept owner =
        subst (λ x. Tells P (factor_walk f owner) (FactorOwnFits s x)) (sym (typed_factor-out env f ∙ typed_factor_kind-out env f.kind))
        (tells_same P _ _ _ (λ out. factor_walk-out f owner out ∙ ap (λ w. w owner out) (factor_kind_walk-out f.kind))
        (factor_at_tells (out-FactorKind f.kind) kept owner))

    multiplied_at_tells : (l : tree.Multiplied-F Added FactorKind Multiplied Expr Factor Term)
        → KeepsMultipliedAt (KeepsFactorWith I) l → (owner : ℕ)
        → Tells P (multiplied_walk_at (opened_multiplied l) owner) (JoinedFits s (multiplied_at env l))
    multiplied_at_tells (tree.Times f) kept owner = tells_so P _ _ _ (joined_fits-built s (joined op.Times (typed_factor env f))) (factor_tells f kept owner)
    multiplied_at_tells (tree.Over f) kept owner = tells_so P _ _ _ (joined_fits-built s (joined op.Divide (typed_factor env f))) (factor_tells f kept owner)
    multiplied_at_tells (tree.Mod f) kept owner = tells_so P _ _ _ (joined_fits-built s (joined op.Modulo (typed_factor env f))) (factor_tells f kept owner)

    multiplied_tells : (m : Multiplied) → KeepsMultipliedAt (KeepsFactorWith I) (out-Multiplied m) → (owner : ℕ)
        → Tells P (multiplied_walk m owner) (JoinedFits s (typed_multiplied env m))
    multiplied_tells m kept owner =
        subst (λ x. Tells P (multiplied_walk m owner) (JoinedFits s x)) (sym (typed_multiplied-out env m))
        (tells_same P _ _ _ (λ out. ap (λ w. w owner out) (multiplied_walk-out m)) (multiplied_at_tells (out-Multiplied m) kept owner))

    -- the factors of a product
    record FactorsFit (factors : List MJoined) : Type 0 where
      pub stand : FactorsStand factors
      pub all : AllByRecursion (JoinedFits s) factors

    term_tells : (t : Term) → KeepsTermWith (KeepsFactorWith I) t → (owner : ℕ) → Tells P (term_walk t owner) (FactorsFit (typed_term env t))
    term_tells t kept owner =
        subst (λ x. Tells P (term_walk t owner) (FactorsFit x)) (sym (typed_term-out env t))
        (tells_same P _ _ _ (λ out. term_walk-out t owner out)
        (tells_so P _ _ _ (λ x. record {
          stand = refl;
          all = (
            joined_fits-built s (joined op.Times (typed_factor env t.first)) x.0,
            all_made (typed_multiplied env)
                (JoinedFits s) t.rest x.1,
          );
        })
        (tells_then P _ _ _ _ (factor_tells t.first kept.0 owner)
        (tells_each P multiplied_walk (λ m. KeepsMultipliedAt (KeepsFactorWith I) (out-Multiplied m))
        (λ m. JoinedFits s (typed_multiplied env m)) t.rest owner kept.1 (λ m k. multiplied_tells m k owner)))))

    added_at_tells : (l : tree.Added-F Added FactorKind Multiplied Expr Factor Term)
        → KeepsAddedAt (KeepsTermWith (KeepsFactorWith I)) l → (owner : ℕ)
        → Tells P (added_walk_at (opened_added l) owner) (TermFits s (added_at env l))
    added_at_tells (tree.Plus t) kept owner = tells_so P _ _ _ (λ x. product_fits s false (typed_term env t) x.stand x.all) (term_tells t kept owner)
    added_at_tells (tree.Minus t) kept owner = tells_so P _ _ _ (λ x. product_fits s true (typed_term env t) x.stand x.all) (term_tells t kept owner)

    added_tells : (a : Added) → KeepsAddedAt (KeepsTermWith (KeepsFactorWith I)) (out-Added a) → (owner : ℕ)
        → Tells P (added_walk a owner) (TermFits s (typed_added env a))
    added_tells a kept owner =
        subst (λ x. Tells P (added_walk a owner) (TermFits s x)) (sym (typed_added-out env a))
        (tells_same P _ _ _ (λ out. ap (λ w. w owner out) (added_walk-out a)) (added_at_tells (out-Added a) kept owner))

    pub expr_tells_with : (e : Expr) → KeepsExprWith (KeepsTermWith (KeepsFactorWith I)) e → (owner : ℕ)
        → Tells P (expr_walk e owner) (ExprFits s (typed_expr env e))
    expr_tells_with e kept owner =
        subst (λ x. Tells P (expr_walk e owner) (ExprFits s x)) (sym (typed_expr-out env e))
        (tells_same P _ _ _ (λ out. expr_walk-out e owner out)
        (tells_so P _ _ _ (λ x. sum_fits s (product false (typed_term env e.first) ∷ map (typed_added env) e.rest)
        (first_stands (typed_term env e.first) (map (typed_added env) e.rest)) (
          product_fits s false (typed_term env e.first) x.0.stand x.0.all,
          all_made (typed_added env) (TermFits s)
              e.rest x.1,
        ))
        (tells_then P _ _ _ _ (term_tells e.first kept.0 owner)
        (tells_each P added_walk (λ a. KeepsAddedAt (KeepsTermWith (KeepsFactorWith I)) (out-Added a))
        (λ a. TermFits s (typed_added env a)) e.rest owner kept.1 (λ a k. added_tells a k owner)))))

  inside_tells : (b : ℕ) (e : Expr) → KeepsInside b e → (owner : ℕ) → Tells P (expr_walk e owner) (ExprFits s (typed_expr env e))
  unfolding KeepsInside
  inside_tells zero e kept owner = absurd kept
  inside_tells (suc b) e kept owner = expr_tells_with (KeepsInside b) (inside_tells b) e kept owner

  pub expr_tells : (b : ℕ) (e : Expr) → KeepsExpr b e → (owner : ℕ) → Tells P (expr_walk e owner) (ExprFits s (typed_expr env e))
  expr_tells b e kept owner = expr_tells_with (KeepsInside b) (inside_tells b) e kept owner
