-- The operands of the code are in range.
use Rattle.std.proofs.Common.{◌≡◌, ℕ, ◌+◌, ◌*◌, ◌^◌, ◌<◌, ◌≤◌, Bool, true, false, List, [], ◌∷◌}
use Rattle.std.proofs.Common.{length, map, Option, Some, None, refl, sym, ap, ◌∙◌, subst, arith}
use Rattle.std.proofs.Common.{slice_get}
use Rattle.std.proofs.lemmas.Option.{slice_get_within, same_Some}
use Rattle.std.specs.List.{AllByRecursion}
use Rattle.machine_code.specs.declared.op.Op.TheVariants.{Ldx}
use Rattle.machine_code.specs.Operands.{OpFits}
use Rattle.exchange_model.specs.declared.expr.Expr.{Expr, out-Expr}
use Rattle.exchange_model.specs.declared.expr.Term.{Term, out-Term}
use Rattle.exchange_model.specs.declared.expr.Joined.{Joined}
use Rattle.exchange_model.specs.declared.expr.FactorOp.{FactorOp}
use Rattle.exchange_model.specs.declared.expr.FactorOp.TheVariants.{Times, Divide, Modulo}
use Rattle.exchange_model.specs.declared.expr.Factor.{Factor}
use Rattle.exchange_model.specs.declared.expr.Factor.TheVariants.{Number, Variable, Temporary}
use Rattle.exchange_model.specs.declared.expr.Factor.TheVariants.{Field, Reference}
use Rattle.exchange_model.specs.declared.expr.Cond.{Cond}
use Rattle.exchange_model.specs.declared.expr.Relation.{Relation}
use Rattle.exchange_model.specs.declared.expr.Rel.{Rel}
use Rattle.exchange_model.specs.declared.expr.Rel.TheVariants.{Equal, Unequal, Below, AtMost, Above}
use Rattle.exchange_model.specs.declared.expr.Rel.TheVariants.{AtLeast}
use Rattle.exchange_model.specs.Cells.{Placed, record_cells}
use Rattle.exchange_model.specs.Inside.{most, bracket_depth, relation_exprs, joined, cond_exprs}
use Rattle.exchange_model.specs.Fits.{Scope, ExprFits, ExprsFit}
use Rattle.exchange_model.specs.PartFits.{TermFits, FactorOwnFits}
use Rattle.exchange_model.proofs.Layers.{expr_fits-out}
use Rattle.exchange_model.specs.PartCounts.{term_depth, factor_own_depth}
use Rattle.exchange_model.proofs.Counted.{bracket_depth-out}
use Rattle.expr_code.specs.Code.{Site, Code, term_op, factor_op, rel_op, own_code, field_code}
use Rattle.expr_code.specs.Code.{sum_code, product_code, whole_sum, whole_product, expr_code}
use Rattle.expr_code.specs.Code.{term_code, factor_code, joined_code, summand_code, relation_code}
use Rattle.expr_code.specs.Code.{and_code, all_code, or_code, any_code, cond_code}
use Rattle.expr_code.specs.Sites.{IsPlacedFile, IsSite}
use Rattle.source_meaning.proofs.Parts.{NodeParts, every_expr}
use Rattle.expr_code.proofs.Opened.{expr_code-out, term_code-out, factor_code-Number}
use Rattle.expr_code.proofs.Opened.{factor_code-Variable, factor_code-Temporary, factor_code-Field}
use Rattle.expr_code.proofs.Opened.{factor_code-Bracket, factor_code-Reference}
use Rattle.expr_code.proofs.Fitted.{number_fits, variable_fits, temporary_fits, field_fits}
use Rattle.expr_code.proofs.Fitted.{bracket_fits, reference_fits, factors_fit, term_is_deep}
use Rattle.expr_code.proofs.Fitted.{bracket_is_deep}
use Rattle.expr_code.proofs.Each.{all_fit}
use Rattle.plex_num.proofs.Lists.{all_left, all_right, all_both, all_append}

term_op_fits : (minus : Bool) (r s : ℕ) → r < 16 → s < 16 → OpFits (term_op minus r s)
term_op_fits false r s p q = (p, q)
term_op_fits true r s p q = (p, q)

factor_op_fits : (by : FactorOp) (r s : ℕ) → r < 16 → s < 16 → OpFits (factor_op by r s)
factor_op_fits Times r s p q = (p, q)
factor_op_fits Divide r s p q = (p, q)
factor_op_fits Modulo r s p q = (p, q)

rel_op_fits : (rel : Rel) (r s : ℕ) → r < 16 → s < 16 → OpFits (rel_op rel r s)
rel_op_fits Equal r s p q = (p, q)
rel_op_fits Unequal r s p q = (p, q)
rel_op_fits Below r s p q = (p, q)
rel_op_fits AtMost r s p q = (p, q)
rel_op_fits Above r s p q = (p, q)
rel_op_fits AtLeast r s p q = (p, q)

own_fits : (forlopp : Bool) (file r : ℕ) → file < 2 ^ 32 → r < 16 → AllByRecursion OpFits (own_code forlopp file r)
own_fits false file r p q = tt
own_fits true file r p q = ((q, p), tt)

module _ (scope : Scope) (site : Site) (is_site : IsSite scope site) where
  -- by its register and so many above it
  abbrev FitsWithin : ℕ → Code → Type 0
  FitsWithin k c = (r : ℕ) → r + k < 16 → AllByRecursion OpFits (c site r)

  abbrev TermOps : Term → Type 0
  TermOps t = FitsWithin (2 * term_depth t + 1) (term_code t)

  abbrev FactorOps : Factor → Type 0
  FactorOps f = FitsWithin (2 * factor_own_depth f) (factor_code f)

  fits_as : {j k : ℕ} {c d : Code} → j ≡ k → c ≡ d → FitsWithin k d → FitsWithin j c
  fits_as {k = k} {c = c} ek ec h = subst (λ z. FitsWithin z c) (sym ek) (subst (FitsWithin k) (sym ec) h)

  sum_fits : (ts : List Term) (r : ℕ) → AllByRecursion TermOps ts → r + (2 * most (map term_depth ts) + 2) < 16
      → AllByRecursion OpFits (sum_code (map summand_code ts) site r)
  sum_fits [] r all lt = tt
  sum_fits (t ∷ ts) r all lt =
      let minus = (out-Term t).minus in
      all_append OpFits (term_code t site (r + 1)) _ (all.0 (r + 1) (omega arith))
      (term_op_fits minus r (r + 1) (omega arith) (omega arith), sum_fits ts r all.1 (omega arith))

  product_fits : (js : List Joined) (r : ℕ) → AllByRecursion (λ (j : Joined). FactorOps j.factor) js
      → r + (2 * most (map (λ (j : Joined). factor_own_depth j.factor) js) + 1) < 16
      → AllByRecursion OpFits (product_code (map joined_code js) site r)
  product_fits [] r all lt = tt
  product_fits (j ∷ js) r all lt =
      all_append OpFits (factor_code j.factor site (r + 1)) _ (all.0 (r + 1) (omega arith))
      (factor_op_fits j.by r (r + 1) (omega arith) (omega arith), product_fits js r all.1 (omega arith))

  terms_fit : (ts : List Term) (r : ℕ) → AllByRecursion TermOps ts → r + (2 * most (map term_depth ts) + 2) < 16
      → AllByRecursion OpFits (whole_sum (map summand_code ts) site r)
  terms_fit [] r all lt = tt
  terms_fit (t ∷ ts) r all lt = all_append OpFits (term_code t site r) _ (all.0 r (omega arith)) (sum_fits ts r all.1 (omega arith))

  joineds_fit : (js : List Joined) (r : ℕ) → AllByRecursion (λ (j : Joined). FactorOps j.factor) js
      → r + (2 * most (map (λ (j : Joined). factor_own_depth j.factor) js) + 1) < 16
      → AllByRecursion OpFits (whole_product (map joined_code js) site r)
  joineds_fit [] r all lt = tt
  joineds_fit (j ∷ js) r all lt = all_append OpFits (factor_code j.factor site r) _ (all.0 r (omega arith)) (product_fits js r all.1 (omega arith))

  term_layer_fits : (t : Term) → AllByRecursion (λ (j : Joined). FactorOps j.factor) (out-Term t).factors → TermOps t
  term_layer_fits t all = fits_as (ap (λ d. 2 * d + 1) (term_is_deep t)) (term_code-out t) (λ r lt. joineds_fit (out-Term t).factors r all lt)

  expr_layer_fits : (e : Expr) → AllByRecursion TermOps (out-Expr e).terms → FitsWithin (2 * bracket_depth e + 2) (expr_code e)
  expr_layer_fits e all = fits_as (ap (λ d. 2 * d + 2) (bracket_depth-out e)) (expr_code-out e) (λ r lt. terms_fit (out-Expr e).terms r all lt)

  leaf_fits : (f : Factor) {c : Code} → factor_code f ≡ c → FitsWithin 0 c → FactorOps f
  leaf_fits f ec h r lt = fits_as {j = 0} refl ec h r (omega arith)

  field_ops : (o : Option Placed) (file field pointer : ℕ)
      → ((p : Placed) → o ≡ Some p → IsPlacedFile p × (field < length p.file.fields) × (file < 2 ^ 32)) → pointer < 24
      → FitsWithin 0 (λ site r. field_code o file field pointer r)
  field_ops None file field pointer place small r lt = ((omega arith, omega arith), tt)
  field_ops (Some p) file field pointer place small r lt =
      let h = place p refl in
      let fits = h.0 in
      let load : AllByRecursion OpFits (Ldx r (p.first + field) (record_cells p.file) r
      ∷ []) = ((omega arith, omega (arith, h.1, fits.cells), omega (arith, fits.cells), omega arith), tt) in (
        (omega arith, omega arith),
        (
          (omega arith, fits.size),
          all_append OpFits (own_code p.file.forlopp file r) _
              (own_fits p.file.forlopp file r h.2 (omega arith)) load,
        ),
      )

  expr_ops : NodeParts (λ e. ExprFits scope e → FitsWithin (2 * bracket_depth e + 2) (expr_code e))
      (λ t. TermFits scope t → TermOps t) (λ f. FactorOwnFits scope f → FactorOps f)
  expr_ops = record {
    expr = λ e all fits. expr_layer_fits e (all_fit (TermFits scope) TermOps (out-Expr e).terms all (expr_fits-out scope e fits).1);
    term = λ t all fits. term_layer_fits t (all_fit (λ (j : Joined). FactorOwnFits scope j.factor)
        (λ (j : Joined). FactorOps j.factor) (out-Term t).factors all (factors_fit scope t fits));
    number = λ n fits. leaf_fits (Number n) (factor_code-Number n) (λ r lt. ((omega arith, number_fits scope n fits), tt));
    variable = λ v fits.
        let h = variable_fits scope v fits in
        leaf_fits (Variable v) (factor_code-Variable v) (λ r lt. ((omega arith, omega (arith, is_site.variables)), tt));
    temporary = λ t fits.
        let h = temporary_fits scope t fits in
        leaf_fits (Temporary t) (factor_code-Temporary t) (λ r lt. ((omega arith, omega (arith, is_site.limited.temporaries)), tt));
    field = λ file field pointer fits.
        let h = field_fits scope file field pointer fits in
        leaf_fits (Field file field pointer) (factor_code-Field file field pointer) (field_ops (slice_get site.files file) file field pointer (λ p there.
        let same : p ≡ h.0.placed = same_Some p h.0.placed (sym there ∙ ap (λ l. slice_get l file) is_site.files ∙ h.0.there) in
        let inside : field < length p.file.fields = subst (λ (q : Placed). field < length q.file.fields) (sym same) h.0.within in
        (is_site.each file p there, inside, omega (arith, slice_get_within site.files file p there, is_site.few)))
        (omega (arith, h.1, is_site.limited.temporaries)));
    bracket = λ e ops fits.
        let h = bracket_fits scope e fits in
        fits_as (ap (λ d. 2 * d) (bracket_is_deep e)) (factor_code-Bracket e) (λ r lt. ops h r (omega arith));
    reference = λ b fits.
        let h = reference_fits scope b fits in
        leaf_fits (Reference b) (factor_code-Reference b) (λ r lt. ((omega arith, omega (arith, h, is_site.limited.blocks)), tt));
  }

  pub expr_ops_fit : (e : Expr) (r : ℕ) → ExprFits scope e → r + (2 * bracket_depth e + 2) < 16 → AllByRecursion OpFits (expr_code e site r)
  expr_ops_fit e r fits room = every_expr expr_ops e fits r room

  abbrev Fits : Expr → Type 0
  Fits e = ExprFits scope e × (bracket_depth e ≤ 6)

  relation_ops : (r : Relation) → Fits r.left → Fits r.right → AllByRecursion OpFits (relation_code r site)
  relation_ops r fl fr =
      all_append OpFits (expr_code r.left site 0) _ (expr_ops_fit r.left 0 fl.0 (omega (arith, fl.1)))
      (all_append OpFits (expr_code r.right site 1) _ (expr_ops_fit r.right 1 fr.0 (omega (arith, fr.1)))
      (rel_op_fits r.rel 0 1 (omega arith) (omega arith), tt))

  and_ops : (rs : List Relation) → AllByRecursion Fits (relation_exprs rs) → AllByRecursion OpFits (and_code rs site)
  and_ops [] fits = tt
  and_ops (r ∷ rs) fits = (
    (omega arith, omega arith),
    all_append OpFits (relation_code r site) _ (relation_ops r fits.0 fits.1.0)
        ((omega arith, omega arith), ((omega arith, omega arith), and_ops rs fits.1.1)),
  )

  all_ops : (rs : List Relation) → AllByRecursion Fits (relation_exprs rs) → AllByRecursion OpFits (all_code rs site)
  all_ops [] fits = ((omega arith, omega arith), tt)
  all_ops (r ∷ rs) fits = all_append OpFits (relation_code r site) _ (relation_ops r fits.0 fits.1.0) (and_ops rs fits.1.1)

  or_ops : (rss : List (List Relation)) → AllByRecursion Fits (joined (map relation_exprs rss)) → AllByRecursion OpFits (or_code rss site)
  or_ops [] fits = tt
  or_ops (rs ∷ rss) fits =
      let here = all_left Fits (relation_exprs rs) (joined (map relation_exprs rss)) fits in
      let later = all_right Fits (relation_exprs rs) (joined (map relation_exprs rss)) fits in (
        (omega arith, omega arith),
        all_append OpFits (all_code rs site) _ (all_ops rs here)
            ((omega arith, omega arith), ((omega arith, omega arith), or_ops rss later)),
      )

  any_ops : (rss : List (List Relation)) → AllByRecursion Fits (joined (map relation_exprs rss)) → AllByRecursion OpFits (any_code rss site)
  any_ops [] fits = ((omega arith, omega arith), tt)
  any_ops (rs ∷ rss) fits =
      let here = all_left Fits (relation_exprs rs) (joined (map relation_exprs rss)) fits in
      let later = all_right Fits (relation_exprs rs) (joined (map relation_exprs rss)) fits in
      all_append OpFits (all_code rs site) _ (all_ops rs here) (or_ops rss later)

  pub cond_ops_fit : (c : Cond) → ExprsFit scope (cond_exprs c) → AllByRecursion OpFits (cond_code c site)
  cond_ops_fit c fits = any_ops c.any (all_both (ExprFits scope) (λ e. bracket_depth e ≤ 6) (cond_exprs c) fits.each fits.shallow)
