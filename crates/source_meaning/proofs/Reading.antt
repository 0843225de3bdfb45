-- A value depends on the words that it loads, and on no others.
use Rattle.std.proofs.Common.{◌≡◌, ℕ, ◌+◌, List, [], ◌∷◌, map, Option, Some, None, refl, sym, ap}
use Rattle.std.proofs.Common.{◌∙◌, subst, slice_get}
use Rattle.std.specs.Prelude.{slice_index, ◌&&◌, ◌||◌}
use Rattle.std.specs.List.{AllByRecursion}
use Rattle.job_types.specs.declared.fault.Fault.{Fault}
use Rattle.job_types.specs.declared.touch.Touch.{Touch}
use Rattle.job_types.specs.declared.touch.Touch.TheVariants.{Load, Store}
use Rattle.job_types.specs.Truth.{one_if, is_set}
use Rattle.exchange_model.specs.declared.expr.Expr.{Expr, out-Expr}
use Rattle.exchange_model.specs.declared.expr.Term.{Term, out-Term}
use Rattle.exchange_model.specs.declared.expr.Joined.{Joined}
use Rattle.exchange_model.specs.declared.expr.Factor.{Factor}
use Rattle.exchange_model.specs.declared.expr.Relation.{Relation}
use Rattle.exchange_model.specs.declared.expr.Cond.{Cond}
use Rattle.exchange_model.specs.declared.stmt.Holder.{Holder}
use Rattle.exchange_model.specs.declared.stmt.Holder.TheVariants as holder
use Rattle.exchange_model.specs.Cells.{Placed, field_cell}
use Rattle.source_meaning.specs.Value.{Got, Gives, Fails, Eval, Sight, with_value, after_loads}
use Rattle.source_meaning.specs.Value.{joined, summed, sum_value, product_value, summand_of}
use Rattle.source_meaning.specs.Value.{multiplier_of, field_value, load_or_fault, pointer_fault}
use Rattle.source_meaning.specs.Value.{cell_value, expr_value, term_value, factor_value}
use Rattle.source_meaning.specs.Value.{holder_value, stands, relation_value, all_value, any_value}
use Rattle.source_meaning.specs.Value.{cond_value}
use Rattle.source_meaning.proofs.Layers.{expr_value-out, term_value-out, factor_value-Number}
use Rattle.source_meaning.proofs.Layers.{factor_value-Variable, factor_value-Temporary}
use Rattle.source_meaning.proofs.Layers.{factor_value-Field, factor_value-Bracket}
use Rattle.source_meaning.proofs.Layers.{factor_value-Reference}
use Rattle.plex_num.proofs.Lists.{all_left, all_right}
use Rattle.source_meaning.proofs.Loads.{loads_in}
use Rattle.source_meaning.proofs.Parts.{NodeParts, every_expr}

-- the words give the load its value
abbrev pub FoundIn : List ℕ → Touch → Type 0
FoundIn t (Load w v) = slice_index t w ≡ v
FoundIn t (Store w v) = ⊥

abbrev pub Finds : List ℕ → Got → Type 0
Finds t got = AllByRecursion (FoundIn t) (loads_in got)

-- the same sight over other words
abbrev pub over : List ℕ → Sight → Sight
over t s = record s { store = t }

module _ (t : List ℕ) where
  after_finds : (loads : List Touch) (next : Got) → Finds t (after_loads loads next) → AllByRecursion (FoundIn t) loads × Finds t next
  after_finds loads (Gives ls v) h = (all_left (FoundIn t) loads ls h, all_right (FoundIn t) loads ls h)
  after_finds loads (Fails ls f) h = (all_left (FoundIn t) loads ls h, all_right (FoundIn t) loads ls h)

  reads_with : (got got' : Got) (go go' : ℕ → Got) → Finds t (with_value got go) → (Finds t got → got' ≡ got)
      → ((v : ℕ) → Finds t (go v) → go' v ≡ go v) → with_value got' go' ≡ with_value got go
  reads_with (Gives loads v) got' go go' h first more =
      let parts = after_finds loads (go v) h in
      ap (λ g. with_value g go') (first parts.0) ∙ ap (after_loads loads) (more v parts.1)
  reads_with (Fails loads f) got' go go' h first more = ap (λ g. with_value g go') (first h)

  module _ (s : Sight) where
    abbrev ExprReads : Expr → Type 0
    ExprReads e = Finds t (expr_value e s) → expr_value e (over t s) ≡ expr_value e s

    abbrev TermReads : Term → Type 0
    TermReads e = Finds t (term_value e s) → term_value e (over t s) ≡ term_value e s

    abbrev FactorReads : Factor → Type 0
    FactorReads f = Finds t (factor_value f s) → factor_value f (over t s) ≡ factor_value f s

    -- by what an evaluation is the same as
    same_reads : (u v : Eval) → u ≡ v → (Finds t (v s) → v (over t s) ≡ v s) → Finds t (u s) → u (over t s) ≡ u s
    same_reads u v is h = subst (λ (z : Eval). Finds t (z s) → z (over t s) ≡ z s) (sym is) h

    sum_reads : (ts : List Term) (sum : ℕ) → AllByRecursion TermReads ts → Finds t (sum_value (map summand_of ts) sum s)
        → sum_value (map summand_of ts) sum (over t s) ≡ sum_value (map summand_of ts) sum s
    sum_reads [] sum each h = refl
    sum_reads (e ∷ ts) sum each h =
        let rest = λ (z : Sight) (v : ℕ). sum_value (map summand_of ts) (summed (out-Term e).minus sum v) z in
        reads_with (term_value e s) (term_value e (over t s)) (rest s) (rest (over t s)) h each.0
        (λ v k. sum_reads ts (summed (out-Term e).minus sum v) each.1 k)

    product_reads : (js : List Joined) (product : ℕ) → AllByRecursion (λ (j : Joined). FactorReads j.factor) js
        → Finds t (product_value (map multiplier_of js) product s)
        → product_value (map multiplier_of js) product (over t s) ≡ product_value (map multiplier_of js) product s
    product_reads [] product each h = refl
    product_reads (j ∷ js) product each h =
        let last = λ (z : Sight) (p : ℕ). product_value (map multiplier_of js) p z in
        let rest = λ (z : Sight) (v : ℕ). with_value (joined j.by product v) (last z) in
        reads_with (factor_value j.factor s) (factor_value j.factor (over t s)) (rest s) (rest (over t s)) h each.0
        (λ v k. reads_with (joined j.by product v) (joined j.by product v) (last s) (last (over t s)) k (λ m. refl) (λ p m. product_reads js p each.1 m))

    pub cell_reads : (cell : ℕ) → Finds t (cell_value cell s) → cell_value cell (over t s) ≡ cell_value cell s
    cell_reads cell h = ap (λ v. Gives (Load cell v ∷ []) v) h.0

    fault_reads : (found : Option Fault) (cell : ℕ) → Finds t (load_or_fault found cell s) → load_or_fault found cell (over t s) ≡ load_or_fault found cell s
    fault_reads None cell h = cell_reads cell h
    fault_reads (Some f) cell h = refl

    field_reads : (found : Option Placed) (file field number : ℕ) → Finds t (field_value found file field number s)
        → field_value found file field number (over t s) ≡ field_value found file field number s
    field_reads None file field number h = refl
    field_reads (Some p) file field number h = fault_reads (pointer_fault s.chain file p number) (field_cell p number field) h

    expr_parts : NodeParts ExprReads TermReads FactorReads
    expr_parts = record {
      expr = λ e each. same_reads (expr_value e) (sum_value (map summand_of (out-Expr e).terms) 0) (expr_value-out e) (sum_reads (out-Expr e).terms 0 each);
      term = λ e each. same_reads (term_value e) (product_value (map multiplier_of (out-Term e).factors) 1)
          (term_value-out e) (product_reads (out-Term e).factors 1 each);
      number = λ n h. factor_value-Number n (over t s) ∙ sym (factor_value-Number n s);
      variable = λ v h. factor_value-Variable v (over t s)
          ∙ cell_reads (s.first + v) (subst (Finds t) (factor_value-Variable v s) h) ∙ sym (factor_value-Variable v s);
      temporary = λ n h. factor_value-Temporary n (over t s) ∙ sym (factor_value-Temporary n s);
      field = λ file field pointer h. factor_value-Field file field pointer (over t s)
          ∙ field_reads (slice_get s.files file) file field (slice_index s.temps pointer) (subst (Finds t) (factor_value-Field file field pointer s) h)
          ∙ sym (factor_value-Field file field pointer s);
      bracket = λ e inside h. factor_value-Bracket e (over t s) ∙ inside (subst (Finds t) (factor_value-Bracket e s) h) ∙ sym (factor_value-Bracket e s);
      reference = λ b h. factor_value-Reference b (over t s) ∙ sym (factor_value-Reference b s);
    }

    pub expr_reads : (e : Expr) → ExprReads e
    expr_reads e = every_expr expr_parts e

    relation_reads : (r : Relation) → Finds t (relation_value r s) → relation_value r (over t s) ≡ relation_value r s
    relation_reads r h =
        let last = λ (a b : ℕ). Gives [] (one_if (stands r.rel a b)) in
        let rest = λ (z : Sight) (a : ℕ). with_value (expr_value r.right z) (last a) in
        reads_with (expr_value r.left s) (expr_value r.left (over t s)) (rest s) (rest (over t s)) h (expr_reads r.left)
        (λ a k. reads_with (expr_value r.right s) (expr_value r.right (over t s)) (last a) (last a) k (expr_reads r.right) (λ b m. refl))

    all_reads : (rs : List Relation) (before : ℕ) → Finds t (all_value rs before s) → all_value rs before (over t s) ≡ all_value rs before s
    all_reads [] before h = refl
    all_reads (r ∷ rs) before h =
        let rest = λ (z : Sight) (v : ℕ). all_value rs (one_if (is_set before && is_set v)) z in
        reads_with (relation_value r s) (relation_value r (over t s)) (rest s) (rest (over t s)) h (relation_reads r)
        (λ v k. all_reads rs (one_if (is_set before && is_set v)) k)

    any_reads : (rss : List (List Relation)) (before : ℕ) → Finds t (any_value rss before s) → any_value rss before (over t s) ≡ any_value rss before s
    any_reads [] before h = refl
    any_reads (rs ∷ rss) before h =
        let rest = λ (z : Sight) (v : ℕ). any_value rss (one_if (is_set before || is_set v)) z in
        reads_with (all_value rs 1 s) (all_value rs 1 (over t s)) (rest s) (rest (over t s)) h (all_reads rs 1)
        (λ v k. any_reads rss (one_if (is_set before || is_set v)) k)

    pub cond_reads : (c : Cond) → Finds t (cond_value c s) → cond_value c (over t s) ≡ cond_value c s
    cond_reads c h = any_reads c.any 0 h

    pub holder_reads : (h : Holder) → Finds t (holder_value h s) → holder_value h (over t s) ≡ holder_value h s
    holder_reads (holder.Temporary n) h = refl
    holder_reads (holder.Variable v) h = cell_reads (s.first + v) h
