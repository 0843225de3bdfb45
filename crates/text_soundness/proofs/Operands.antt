-- An expression as its walk and its typed form see it: brackets stand no deeper than the tree's,
-- and each operand counts.
use Rattle.std.proofs.Common.{◌≡◌, ℕ, zero, suc, ◌+◌, ◌≤◌, max, Bool, true, false, List, [], ◌∷◌}
use Rattle.std.proofs.Common.{◌++◌, map, refl, sym, ◌∙◌, ap, subst, arith, Some, None, Option}
use Rattle.std.specs.List.{AllByRecursion}
use Rattle.std.specs.Prelude.{if◌then◌else◌}
use Rattle.std.proofs.lemmas.Bool.{eq-eqb}
use Rattle.std.proofs.Math.Nat.{max-le}
use Rattle.first_fault.specs.First.{count}
use Rattle.plex_ast.specs.declared.expr.Expr.{Expr}
use Rattle.plex_ast.specs.declared.expr.Added.{Added, out-Added}
use Rattle.plex_ast.specs.declared.expr.Added.TheOpen as tree
use Rattle.plex_ast.specs.declared.expr.Term.{Term}
use Rattle.plex_ast.specs.declared.expr.Multiplied.{Multiplied, out-Multiplied}
use Rattle.plex_ast.specs.declared.expr.Factor.{Factor}
use Rattle.plex_ast.specs.declared.expr.FactorKind.{FactorKind, out-FactorKind}
use Rattle.exchange_model.specs.declared.expr.Expr.{Expr as MExpr, out-roll-Expr}
use Rattle.exchange_model.specs.declared.expr.Term.{Term as MTerm, out-roll-Term}
use Rattle.exchange_model.specs.declared.expr.Joined.{Joined as MJoined}
use Rattle.exchange_model.specs.declared.expr.Factor.{Factor as MFactor, Factor-F, out-Factor}
use Rattle.exchange_model.specs.declared.expr.Factor.TheVariants as factor
use Rattle.exchange_model.specs.declared.expr.FactorOp.TheVariants as op
use Rattle.exchange_model.specs.Inside.{most, total, bracket_depth, operand_count}
use Rattle.exchange_model.specs.PartCounts.{term_depth, joined_depth, factor_own_depth}
use Rattle.exchange_model.specs.PartCounts.{inside_depth, term_operands, joined_operands}
use Rattle.exchange_model.specs.PartCounts.{factor_own_operands, inside_operands}
use Rattle.exchange_model.proofs.Counted.{bracket_depth-out, term_depth-out, joined_depth-out}
use Rattle.exchange_model.proofs.Counted.{factor_own_depth-out, operand_count-out}
use Rattle.exchange_model.proofs.Counted.{term_operands-out, joined_operands-out}
use Rattle.exchange_model.proofs.Counted.{factor_own_operands-out}
use Rattle.text_events.specs.Note.{Event}
use Rattle.text_events.specs.declared.role.Meaning.{Meaning}
use Rattle.text_events.specs.declared.role.Meaning.TheVariants.{Variable, Temporary, File, Field}
use Rattle.text_events.specs.declared.role.Meaning.TheVariants.{Label}
use Rattle.text_events.specs.Note.{Note}
use Rattle.text_events.specs.Note as note
use Rattle.text_events.specs.declared.role.Need.TheVariants as need
use Rattle.text_events.specs.Walk.{OwnWalk, add, each_walk, expr_walk, term_walk, factor_walk}
use Rattle.text_events.specs.Walk.{added_walk, multiplied_walk, factor_walk_at, added_walk_at}
use Rattle.text_events.specs.Walk.{multiplied_walk_at}
use Rattle.text_rules.specs.Blocks.{counts_for, operand_of, is_owner}
use Rattle.text_soundness.specs.Fine.{Text}
use Rattle.kept_trees.specs.Keeps.{Every, KeepsFactorAt, KeepsFactorWith, KeepsMultipliedAt}
use Rattle.kept_trees.specs.Keeps.{KeepsTermWith, KeepsAddedAt, KeepsExprWith, KeepsInside}
use Rattle.kept_trees.specs.Keeps.{KeepsExpr}
use Rattle.resolved_block.specs.Names.{Env}
use Rattle.resolved_block.specs.Meant.{value_in}
use Rattle.resolved_block.specs.Expressions.{joined, product, sum_of, field_of, typed_added}
use Rattle.resolved_block.specs.Expressions.{typed_multiplied, typed_expr, typed_factor, typed_term}
use Rattle.resolved_block.proofs.Layers.{factor_at, multiplied_at, added_at}
use Rattle.text_soundness.proofs.BuiltText.{Begin, begin_all, begin_then, begin_add, Sound}
use Rattle.text_soundness.proofs.BuiltText.{count_append, few_operands}
use Rattle.text_events.proofs.Layers.{expr_walk-out, term_walk-out, factor_walk-out}
use Rattle.text_events.proofs.Layers.{factor_kind_walk-out, opened_factor, added_walk-out}
use Rattle.text_events.proofs.Layers.{opened_added, multiplied_walk-out, opened_multiplied}
use Rattle.resolved_block.proofs.Layers.{typed_expr-out, typed_term-out, typed_factor-out}
use Rattle.resolved_block.proofs.Layers.{typed_added-out, typed_multiplied-out}
use Rattle.resolved_block.proofs.Layers.{typed_factor_kind-out}

-- from some events on to others, at least so many operands of a statement
pub record Gives (o n : ℕ) (front whole : List Event) : Type 0 where
  pub begins : Begin front whole
  pub many : n + count (counts_for o) front ≤ count (counts_for o) whole

pub gives_none : (o : ℕ) (a b : List Event) → Begin a b → Gives o 0 a b
gives_none o a b x = record { begins = x; many = omega (arith, ap (count (counts_for o)) x.same, count_append (counts_for o) a x.more) }

pub gives_then : (o n m : ℕ) (a b c : List Event) → Gives o n a b → Gives o m b c → Gives o (n + m) a c
gives_then o n m a b c x y = record { begins = begin_then a b c x.begins y.begins; many = omega (arith, x.many, y.many) }

pub gives_add : (o n line : ℕ) (said : Note) (a b : List Event) → Gives o n a b → Gives o n a (add line said b)
gives_add o n line said a b x = subst (λ k. Gives o k a (add line said b)) (omega arith)
    (gives_then o n 0 a b (add line said b) x (gives_none o b (add line said b)
    (begin_add b b line said (begin_all b))))

pub gives_one : (o line : ℕ) (said : Note) (a b : List Event) → operand_of said ≡ Some o → Begin a b → Gives o 1 a (add line said b)
gives_one o line said a b is x =
    let e : Event = record { line = line; note = said } in
    let before : count (counts_for o) b ≡ count (counts_for o) a + count (counts_for o) x.more =
    ap (count (counts_for o)) x.same ∙ count_append (counts_for o) a x.more in
    let after : count (counts_for o) (b ++ e ∷ []) ≡ count (counts_for o) b
    + ((if true then 1 else 0) + 0) = count_append (counts_for o) b (e ∷ [])
    ∙ ap (λ t. count (counts_for o) b + ((if t then 1 else 0) + 0)) (ap (is_owner o) is ∙ eq-eqb o o refl) in
    record { begins = begin_add a b line said x; many = omega (arith, before, after) }

-- so at most 64
pub gives_few : (text : Text) (o n : ℕ) (a b : List Event) → Gives o n a b → Sound text b → n ≤ 64
gives_few text o n a b x s = omega (arith, x.many, few_operands text o b s)

-- a walk within a statement, with how deep brackets stand there, and how many operands
pub record Good (b : ℕ) (w : OwnWalk) (depth ops : ℕ) : Type 0 where
  pub shallow : depth ≤ b
  pub gives : (o : ℕ) (out : List Event) → Gives o ops out (w o out)

pub good_then : (b : ℕ) (w v : OwnWalk) (d e n m : ℕ) → Good b w d n → Good b v e m → Good b (λ o out. v o (w o out)) (max d e) (n + m)
good_then b w v d e n m g h = record {
  shallow = max-le g.shallow h.shallow;
  gives = λ o out. gives_then o n m out (w o out) (v o (w o out)) (g.gives o out) (h.gives o (w o out));
}

pub good_same : (b : ℕ) (w v : OwnWalk) (d e n m : ℕ) → ((o : ℕ) (out : List Event) → v o out ≡ w o out) → e ≡ d → m ≡ n → Good b w d n → Good b v e m
good_same b w v d e n m walks depths operands g = record {
  shallow = subst (λ k. k ≤ b) (sym depths) g.shallow;
  gives = λ o out. subst (λ es. Gives o m out es) (sym (walks o out)) (subst (λ k. Gives o k out (w o out)) (sym operands) (g.gives o out));
}

-- one after the other
pub good_each : {X Y : Type 0} (b : ℕ) (walk : X → OwnWalk) (typed : X → Y) (depth ops : Y → ℕ) (xs : List X)
    → AllByRecursion (λ x. Good b (walk x) (depth (typed x)) (ops (typed x))) xs
    → Good b (each_walk (map walk xs)) (most (map depth (map typed xs))) (total (map ops (map typed xs)))
good_each b walk typed depth ops [] all = record { shallow = omega arith; gives = λ o out. gives_none o out out (begin_all out) }
good_each b walk typed depth ops (x ∷ xs) all = good_then b (walk x) (each_walk (map walk xs)) _ _ _ _ all.0 (good_each b walk typed depth ops xs all.1)

pub all_from : {X : Type 0} (K P : X → Type 0) (f : (x : X) → K x → P x) (xs : List X) → Every K xs → AllByRecursion P xs
all_from K P f [] all = tt
all_from K P f (x ∷ xs) all = (f x all.0, all_from K P f xs all.1)

module _ (env : Env) where
  abbrev pub ExprGood : ℕ → Expr → Type 0
  ExprGood b e = Good b (expr_walk e) (bracket_depth (typed_expr env e)) (operand_count (typed_expr env e))

  abbrev pub TermGood : ℕ → Term → Type 0
  TermGood b t = Good b (term_walk t) (most (map joined_depth (typed_term env t))) (total (map joined_operands (typed_term env t)))

  abbrev pub FactorGood : ℕ → Factor → Type 0
  FactorGood b f = Good b (factor_walk f) (factor_own_depth (typed_factor env f)) (factor_own_operands (typed_factor env f))

  abbrev pub MultipliedGood : ℕ → Multiplied → Type 0
  MultipliedGood b m = Good b (multiplied_walk m) (joined_depth (typed_multiplied env m)) (joined_operands (typed_multiplied env m))

  abbrev pub AddedGood : ℕ → Added → Type 0
  AddedGood b a = Good b (added_walk a) (term_depth (typed_added env a)) (term_operands (typed_added env a))

  -- what is in brackets is one less deep
  abbrev pub InsideGood : ℕ → Expr → Type 0
  InsideGood b e = Good b (expr_walk e) (bracket_depth (typed_expr env e) + 1) (operand_count (typed_expr env e))

  own_depth : (f : MFactor) (l : Factor-F MFactor MExpr MJoined MTerm) → out-Factor f ≡ l → factor_own_depth f ≡ inside_depth l
  own_depth f l is = factor_own_depth-out f ∙ ap inside_depth is

  own_operands : (f : MFactor) (l : Factor-F MFactor MExpr MJoined MTerm) → out-Factor f ≡ l → factor_own_operands f ≡ inside_operands l
  own_operands f l is = factor_own_operands-out f ∙ ap inside_operands is

  value_depth : (m : Option Meaning) → factor_own_depth (value_in m) ≡ 0
  value_depth (Some (Variable v)) = own_depth (factor.Variable v) _ (factor.outs-Variable v)
  value_depth (Some (Temporary t)) = own_depth (value_in (Some (Temporary t))) _ (factor.outs-Temporary _)
  value_depth (Some (File f forlopp)) = own_depth (factor.Number 0) _ (factor.outs-Number 0)
  value_depth (Some (Field f g)) = own_depth (factor.Number 0) _ (factor.outs-Number 0)
  value_depth (Some (Label l)) = own_depth (factor.Number 0) _ (factor.outs-Number 0)
  value_depth None = own_depth (factor.Number 0) _ (factor.outs-Number 0)

  value_operands : (m : Option Meaning) → factor_own_operands (value_in m) ≡ 1
  value_operands (Some (Variable v)) = own_operands (factor.Variable v) _ (factor.outs-Variable v)
  value_operands (Some (Temporary t)) = own_operands (value_in (Some (Temporary t))) _ (factor.outs-Temporary _)
  value_operands (Some (File f forlopp)) = own_operands (factor.Number 0) _ (factor.outs-Number 0)
  value_operands (Some (Field f g)) = own_operands (factor.Number 0) _ (factor.outs-Number 0)
  value_operands (Some (Label l)) = own_operands (factor.Number 0) _ (factor.outs-Number 0)
  value_operands None = own_operands (factor.Number 0) _ (factor.outs-Number 0)

  module _ (b : ℕ) (I : Expr → Type 0) (inside : (e : Expr) → I e → InsideGood b e) where
    layer_good : (l : tree.FactorKind-F Added FactorKind Multiplied Expr Factor Term) → KeepsFactorAt I l
        → Good b (factor_walk_at (opened_factor l)) (factor_own_depth (factor_at env l))
        (factor_own_operands (factor_at env l))
    layer_good (tree.Number n) k = record {
      shallow = rw (own_depth (factor.Number n.value) _ (factor.outs-Number n.value)) (omega arith);
      gives = λ o out. rw (own_operands (factor.Number n.value) _ (factor.outs-Number n.value))
          (gives_one o n.line (note.Counts o) out out refl (begin_all out));
    }
    layer_good (tree.Name n) k = record {
      shallow = rw (value_depth (env.name n.name)) (omega arith);
      gives = λ o out. rw (value_operands (env.name n.name)) (gives_one o n.line (note.Reads n.name need.Value o) out out refl (begin_all out));
    }
    layer_good (tree.Field n p) k = record {
      shallow = rw (own_depth (field_of env n p) _ (factor.outs-Field _ _ _)) (omega arith);
      gives = λ o out. rw (own_operands (field_of env n p) _ (factor.outs-Field _ _ _))
          (gives_add o 1 p.line (note.Uses p.name need.Temporary) out _
          (gives_one o n.line (note.Reads n.name need.Field o) out out refl (begin_all out)));
    }
    layer_good (tree.Reference m) k = record {
      shallow = rw (own_depth (factor.Reference _) _ (factor.outs-Reference _)) (omega arith);
      gives = λ o out. rw (own_operands (factor.Reference _) _ (factor.outs-Reference _))
          (gives_one o m.line (note.Refers m.name o) out out refl (begin_all out));
    }
    layer_good (tree.Bracket e) k = good_same b (expr_walk e) (expr_walk e) _ _ _ _ (λ o out. refl)
        (own_depth (factor.Bracket (typed_expr env e)) _ (factor.outs-Bracket _))
        (own_operands (factor.Bracket (typed_expr env e)) _ (factor.outs-Bracket _)) (inside e k)

    factor_good : (f : Factor) → KeepsFactorWith I f → FactorGood b f
    factor_good f k =
        good_same b (factor_walk_at (opened_factor (out-FactorKind f.kind))) (factor_walk f) _ _ _ _
        (λ o out. factor_walk-out f o out ∙ λ i. factor_kind_walk-out f.kind i o out)
        (ap factor_own_depth (typed_factor-out env f ∙ typed_factor_kind-out env f.kind))
        (ap factor_own_operands (typed_factor-out env f ∙ typed_factor_kind-out env f.kind))
        (layer_good (out-FactorKind f.kind) k)

    multiplied_layer_good : (l : tree.Multiplied-F Added FactorKind Multiplied Expr Factor Term)
        → KeepsMultipliedAt (KeepsFactorWith I) l
        → Good b (multiplied_walk_at (opened_multiplied l)) (joined_depth (multiplied_at env l))
        (joined_operands (multiplied_at env l))
    multiplied_layer_good (tree.Times f) k = good_same b (factor_walk f) (factor_walk f) _ _ _ _ (λ o out. refl)
        (joined_depth-out (joined op.Times (typed_factor env f)))
        (joined_operands-out (joined op.Times (typed_factor env f))) (factor_good f k)
    multiplied_layer_good (tree.Over f) k = good_same b (factor_walk f) (factor_walk f) _ _ _ _ (λ o out. refl)
        (joined_depth-out (joined op.Divide (typed_factor env f)))
        (joined_operands-out (joined op.Divide (typed_factor env f))) (factor_good f k)
    multiplied_layer_good (tree.Mod f) k = good_same b (factor_walk f) (factor_walk f) _ _ _ _ (λ o out. refl)
        (joined_depth-out (joined op.Modulo (typed_factor env f)))
        (joined_operands-out (joined op.Modulo (typed_factor env f))) (factor_good f k)

    multiplied_good : (m : Multiplied) → KeepsMultipliedAt (KeepsFactorWith I) (out-Multiplied m) → MultipliedGood b m
    multiplied_good m k =
        good_same b (multiplied_walk_at (opened_multiplied (out-Multiplied m))) (multiplied_walk m) _ _ _ _
        (λ o out. λ i. multiplied_walk-out m i o out)
        (ap joined_depth (typed_multiplied-out env m))
        (ap joined_operands (typed_multiplied-out env m))
        (multiplied_layer_good (out-Multiplied m) k)

    term_good : (t : Term) → KeepsTermWith (KeepsFactorWith I) t → TermGood b t
    term_good t k =
        let rest = good_each b multiplied_walk (typed_multiplied env) joined_depth joined_operands t.rest
        (all_from (λ m. KeepsMultipliedAt (KeepsFactorWith I) (out-Multiplied m)) (MultipliedGood b) multiplied_good
        t.rest k.1) in
        good_same b (λ o out. each_walk (map multiplied_walk t.rest) o (factor_walk t.first o out)) (term_walk t) _ _ _ _
        (term_walk-out t)
        (ap (λ fs. most (map joined_depth fs)) (typed_term-out env t)
        ∙ ap (λ n. max n (most (map joined_depth (map (typed_multiplied env) t.rest))))
        (joined_depth-out (joined op.Times (typed_factor env t.first))))
        (ap (λ fs. total (map joined_operands fs)) (typed_term-out env t)
        ∙ ap (λ n. n + total (map joined_operands (map (typed_multiplied env) t.rest)))
        (joined_operands-out (joined op.Times (typed_factor env t.first))))
        (good_then b (factor_walk t.first) (each_walk (map multiplied_walk t.rest)) _ _ _ _ (factor_good t.first k.0) rest)

    product_depth : (minus : Bool) (fs : List MJoined) → term_depth (product minus fs) ≡ most (map joined_depth fs)
    product_depth minus fs = term_depth-out (product minus fs)
        ∙ ap (λ l. most (map joined_depth l.factors)) (out-roll-Term (record { minus = minus; factors = fs }))

    product_operands : (minus : Bool) (fs : List MJoined) → term_operands (product minus fs) ≡ total (map joined_operands fs)
    product_operands minus fs = term_operands-out (product minus fs)
        ∙ ap (λ l. total (map joined_operands l.factors)) (out-roll-Term (record { minus = minus; factors = fs }))

    added_layer_good : (l : tree.Added-F Added FactorKind Multiplied Expr Factor Term)
        → KeepsAddedAt (KeepsTermWith (KeepsFactorWith I)) l
        → Good b (added_walk_at (opened_added l)) (term_depth (added_at env l)) (term_operands (added_at env l))
    added_layer_good (tree.Plus t) k = good_same b (term_walk t) (term_walk t) _ _ _ _ (λ o out. refl)
        (product_depth false (typed_term env t)) (product_operands false (typed_term env t)) (term_good t k)
    added_layer_good (tree.Minus t) k = good_same b (term_walk t) (term_walk t) _ _ _ _ (λ o out. refl)
        (product_depth true (typed_term env t)) (product_operands true (typed_term env t)) (term_good t k)

    added_good : (a : Added) → KeepsAddedAt (KeepsTermWith (KeepsFactorWith I)) (out-Added a) → AddedGood b a
    added_good a k =
        good_same b (added_walk_at (opened_added (out-Added a))) (added_walk a) _ _ _ _
        (λ o out. λ i. added_walk-out a i o out)
        (ap term_depth (typed_added-out env a))
        (ap term_operands (typed_added-out env a))
        (added_layer_good (out-Added a) k)

    sum_depth : (ts : List MTerm) → bracket_depth (sum_of ts) ≡ most (map term_depth ts)
    sum_depth ts = bracket_depth-out (sum_of ts) ∙ ap (λ l. most (map term_depth l.terms)) (out-roll-Expr (record { terms = ts }))

    sum_operands : (ts : List MTerm) → operand_count (sum_of ts) ≡ total (map term_operands ts)
    sum_operands ts = operand_count-out (sum_of ts) ∙ ap (λ l. total (map term_operands l.terms)) (out-roll-Expr (record { terms = ts }))

    pub expr_good_with : (e : Expr) → KeepsExprWith (KeepsTermWith (KeepsFactorWith I)) e → ExprGood b e
    expr_good_with e k =
        let rest = good_each b added_walk (typed_added env) term_depth term_operands e.rest
        (all_from (λ a. KeepsAddedAt (KeepsTermWith (KeepsFactorWith I)) (out-Added a)) (AddedGood b) added_good
        e.rest k.1) in
        let terms : List MTerm = product false (typed_term env e.first) ∷ map (typed_added env) e.rest in
        good_same b (λ o out. each_walk (map added_walk e.rest) o (term_walk e.first o out)) (expr_walk e) _ _ _ _
        (expr_walk-out e)
        (ap bracket_depth (typed_expr-out env e) ∙ sum_depth terms
        ∙ ap (λ n. max n (most (map term_depth (map (typed_added env) e.rest))))
        (product_depth false (typed_term env e.first)))
        (ap operand_count (typed_expr-out env e) ∙ sum_operands terms
        ∙ ap (λ n. n + total (map term_operands (map (typed_added env) e.rest)))
        (product_operands false (typed_term env e.first)))
        (good_then b (term_walk e.first) (each_walk (map added_walk e.rest)) _ _ _ _ (term_good e.first k.0) rest)

  inside_good : (b : ℕ) (e : Expr) → KeepsInside b e → InsideGood b e
  unfolding KeepsInside
  inside_good zero e k = absurd k
  inside_good (suc b) e k =
      let good = expr_good_with b (KeepsInside b) (inside_good b) e k in
      record { shallow = omega (arith, good.shallow); gives = good.gives }

  pub expr_good : (b : ℕ) (e : Expr) → KeepsExpr b e → ExprGood b e
  expr_good b e k = expr_good_with b (KeepsInside b) (inside_good b) e k
