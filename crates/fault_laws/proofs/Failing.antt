-- Why an expression gives no value: something in it is divided by 0, or a pointer that it names is
-- not sound.
use Rattle.std.proofs.Common.{◌≡◌, ℕ, zero, suc, Bool, true, false, List, [], ◌∷◌, map, Option}
use Rattle.std.proofs.Common.{Some, None, refl, sym, ap, ◌∙◌, subst, slice_get}
use Rattle.std.proofs.lemmas.List.Elements.{Contains-append_left, Contains-append_right}
use Rattle.std.specs.Prelude.{nat_lt, not, ◌&&◌, ◌||◌, slice_index}
use Rattle.std.specs.List.{AllByRecursion, Contains, list_any}
use Rattle.std.proofs.lemmas.Bool.{or_left, or_right}
use Rattle.job_types.specs.declared.fault.Fault.{Fault}
use Rattle.job_types.specs.declared.fault.Fault.TheVariants as fault
use Rattle.job_types.specs.declared.touch.Touch.{Touch}
use Rattle.exchange_model.specs.declared.expr.Expr.{Expr, out-Expr}
use Rattle.exchange_model.specs.declared.expr.Term.{Term, out-Term}
use Rattle.exchange_model.specs.declared.expr.Joined.{Joined}
use Rattle.exchange_model.specs.declared.expr.Factor.{Factor, Factor-F, out-Factor}
use Rattle.exchange_model.specs.declared.expr.Factor.TheOpen as layer
use Rattle.exchange_model.specs.declared.expr.Factor.TheVariants as factor
use Rattle.exchange_model.specs.declared.expr.FactorOp.{FactorOp}
use Rattle.exchange_model.specs.declared.expr.FactorOp.TheVariants.{Times, Divide, Modulo}
use Rattle.exchange_model.specs.Cells.{Placed, field_cell}
use Rattle.exchange_model.specs.Inside.{joined as all_of}
use Rattle.source_meaning.specs.Named.{Named, NamedField, named_in, named_in_term, named_in_factor}
use Rattle.source_meaning.specs.Named.{named_in_joined}
use Rattle.source_meaning.specs.Value.{Got, Gives, Fails, Eval, Sight, with_value, after_loads}
use Rattle.source_meaning.specs.Value.{joined, summed, sum_value, product_value, summand_of}
use Rattle.source_meaning.specs.Value.{multiplier_of, field_value, load_or_fault, pointer_fault}
use Rattle.source_meaning.specs.Value.{expr_value, term_value, factor_value}
use Rattle.source_meaning.proofs.Layers.{expr_value-out, term_value-out, factor_value-Number}
use Rattle.source_meaning.proofs.Layers.{factor_value-Variable, factor_value-Temporary}
use Rattle.source_meaning.proofs.Layers.{factor_value-Field, factor_value-Bracket}
use Rattle.source_meaning.proofs.Layers.{factor_value-Reference}
use Rattle.source_meaning.proofs.Lists.{Within}
use Rattle.source_meaning.proofs.Loads.{FaultIs}
use Rattle.source_meaning.proofs.Naming.{named_in-out, named_in_term-out, named-Field}
use Rattle.source_meaning.proofs.Naming.{named-Bracket}
use Rattle.source_meaning.proofs.Parts.{NodeParts, every_expr}
use Rattle.entry_summary.specs.Divides.{term_divides, divisor_in, above_zero, joins_badly}
use Rattle.entry_summary.specs.Faults.{divides, may_divide_by_zero}
use Rattle.entry_summary.proofs.Dividing.{expr_out, term_out, inside_is}
use Rattle.plex_num.proofs.Members.{first_is}

abbrev above : Factor-F Factor Expr Joined Term → Bool
above l = above_zero l

-- what may divide by 0, or not, and names these things fails so
pub data IsCause (s : Sight) (may_divide : Bool) (names : List Named) : Fault → Type 0 where
  by_zero : may_divide ≡ true → IsCause s may_divide names fault.Divide
  at_pointer : (file field pointer : ℕ) (p : Placed) (f : Fault) → Contains names (NamedField file field pointer)
      → slice_get s.files file ≡ Some p → pointer_fault s.chain file p (slice_index s.temps pointer) ≡ Some f
      → IsCause s may_divide names f

module _ (s : Sight) where
  -- if it fails, it does so for such a cause
  abbrev pub Told : Bool → List Named → Got → Type 0
  Told may_divide names got = FaultIs (IsCause s may_divide names) got

  cause_weaker : (a b : Bool) (m n : List Named) → (a ≡ true → b ≡ true) → Within m n → (f : Fault) → IsCause s a m f → IsCause s b n f
  cause_weaker a b m n more within f (by_zero is) = by_zero (more is)
  cause_weaker a b m n more within f (at_pointer file field pointer p g named there bad) =
      at_pointer file field pointer p g (within (NamedField file field pointer) named) there bad

  told_weaker : (a b : Bool) (m n : List Named) → (a ≡ true → b ≡ true) → Within m n → (got : Got) → Told a m got → Told b n got
  told_weaker a b m n more within (Gives loads v) h = tt
  told_weaker a b m n more within (Fails loads f) h = cause_weaker a b m n more within f h

  told_with : (a : Bool) (m : List Named) (got : Got) (go : ℕ → Got) → Told a m got
      → ((loads : List Touch) (v : ℕ) → got ≡ Gives loads v → Told a m (go v)) → Told a m (with_value got go)
  told_with a m (Gives loads v) go here more = after (go v) (more loads v refl)
    where
      after : (next : Got) → Told a m next → Told a m (after_loads loads next)
      after (Gives ls w) rest = tt
      after (Fails ls f) rest = rest
  told_with a m (Fails loads f) go here more = here

  told_is : (a : Bool) (m : List Named) {got next : Got} → got ≡ next → Told a m next → Told a m got
  told_is a m is h = subst (Told a m) (sym is) h

  -- a factor that is 0 is no number above 0
  abbrev ZeroTold : Factor → Type 0
  ZeroTold f = (loads : List Touch) → factor_value f s ≡ Gives loads 0 → above_zero (out-Factor f) ≡ false

  abbrev ExprTold : Expr → Type 0
  ExprTold e = Told (may_divide_by_zero e) (named_in e) (expr_value e s)

  abbrev TermTold : Term → Type 0
  TermTold t = Told (term_divides t) (named_in_term t) (term_value t s)

  abbrev FactorTold : Factor → Type 0
  FactorTold f = Told (divisor_in f).inside (named_in_factor f) (factor_value f s) × ZeroTold f

  sum_told : (ts : List Term) (sum : ℕ) → AllByRecursion TermTold ts
      → Told (list_any (λ t. t) (map term_divides ts)) (all_of (map named_in_term ts))
      (sum_value (map summand_of ts) sum s)
  sum_told [] sum each = tt
  sum_told (t ∷ ts) sum each =
      let later = list_any (λ t. t) (map term_divides ts) in
      let both = term_divides t || later in
      let names = all_of (map named_in_term (t ∷ ts)) in
      told_with both names (term_value t s) (λ v. sum_value (map summand_of ts) (summed (out-Term t).minus sum v) s)
      (told_weaker (term_divides t) both (named_in_term t) names (or_left (term_divides t) later)
      (λ n at. Contains-append_left (named_in_term t) (all_of (map named_in_term ts)) n at) (term_value t s) each.0)
      (λ loads v is. told_weaker later both (all_of (map named_in_term ts)) names (or_right (term_divides t) later)
      (λ n at. Contains-append_right (named_in_term t) (all_of (map named_in_term ts)) n at) _
      (sum_told ts (summed (out-Term t).minus sum v) each.1))

  -- a factor that is joined
  joined_told : (by : FactorOp) (product v : ℕ) (may : Bool) (names : List Named)
      → (v ≡ 0 → divides by ≡ true → may ≡ true) → Told may names (joined by product v)
  joined_told Times product v may names bad = tt
  joined_told Divide product zero may names bad = by_zero (bad refl refl)
  joined_told Divide product (suc v) may names bad = tt
  joined_told Modulo product zero may names bad = by_zero (bad refl refl)
  joined_told Modulo product (suc v) may names bad = tt

  zero_joins : (j : Joined) (v : ℕ) (loads : List Touch) → ZeroTold j.factor → factor_value j.factor s ≡ Gives loads v
      → v ≡ 0 → divides j.by ≡ true → joins_badly j ≡ true
  zero_joins j v loads told is none by =
      let zeroed = told loads (subst (λ n. factor_value j.factor s ≡ Gives loads n) none is) in
      or_right (divisor_in j.factor).inside (divides j.by && not (above_zero (out-Factor j.factor)))
      (ap (λ b. b && not (above_zero (out-Factor j.factor))) by ∙ ap not zeroed)

  product_told : (js : List Joined) (product : ℕ) → AllByRecursion (λ (j : Joined). FactorTold j.factor) js
      → Told (list_any (λ j. j) (map joins_badly js)) (all_of (map named_in_joined js))
      (product_value (map multiplier_of js) product s)
  product_told [] product each = tt
  product_told (j ∷ js) product each =
      let later = list_any (λ j. j) (map joins_badly js) in
      let both = joins_badly j || later in
      let names = all_of (map named_in_joined (j ∷ js)) in
      let inside = (divisor_in j.factor).inside in
      let joins = divides j.by && not (above_zero (out-Factor j.factor)) in
      told_with both names (factor_value j.factor s) (λ v. with_value (joined j.by product v) (λ p. product_value (map multiplier_of js) p s))
      (told_weaker inside both (named_in_factor j.factor) names
      (λ is. or_left (joins_badly j) later (or_left inside joins is))
      (λ n at. Contains-append_left (named_in_factor j.factor) (all_of (map named_in_joined js)) n at)
      (factor_value j.factor s) each.0.0)
      (λ loads v is. told_with both names (joined j.by product v) (λ p. product_value (map multiplier_of js) p s)
      (joined_told j.by product v both names (λ none by. or_left (joins_badly j) later (zero_joins j v loads each.0.1 is none by)))
      (λ more p at. told_weaker later both (all_of (map named_in_joined js)) names (or_right (joins_badly j) later)
      (λ n at. Contains-append_right (named_in_factor j.factor) (all_of (map named_in_joined js)) n at) _
      (product_told js p each.1)))

  field_told : (found : Option Placed) (file field pointer : ℕ) (names : List Named) → slice_get s.files file ≡ found
      → Contains names (NamedField file field pointer)
      → Told false names (field_value found file field (slice_index s.temps pointer) s)
  field_told None file field pointer names is named = tt
  field_told (Some p) file field pointer names is named = by (pointer_fault s.chain file p (slice_index s.temps pointer)) refl
    where
      by : (found : Option Fault) → pointer_fault s.chain file p (slice_index s.temps pointer) ≡ found
          → Told false names (load_or_fault found (field_cell p (slice_index s.temps pointer) field) s)
      by None sound = tt
      by (Some f) bad = at_pointer file field pointer p f named is bad

  gives_same : (ls ms : List Touch) (n v : ℕ) → Gives ls n ≡ Gives ms v → n ≡ v
  gives_same ls ms n v is = cc

  false_true : false ≡ true → (b : Bool) → b ≡ true
  false_true is b = cc

  told_parts : NodeParts ExprTold TermTold FactorTold
  told_parts = record {
    expr = λ e each. told_is (may_divide_by_zero e) (named_in e) (ap (λ (v : Eval). v s) (expr_value-out e))
        (subst (λ ns. Told (may_divide_by_zero e) ns (sum_value (map summand_of (out-Expr e).terms) 0 s)) (sym (named_in-out e))
        (subst (λ b. Told b (all_of (map named_in_term (out-Expr e).terms))
        (sum_value (map summand_of (out-Expr e).terms) 0 s)) (sym (expr_out e))
        (sum_told (out-Expr e).terms 0 each)));
    term = λ t each. told_is (term_divides t) (named_in_term t) (ap (λ (v : Eval). v s) (term_value-out t))
        (subst (λ ns. Told (term_divides t) ns (product_value (map multiplier_of (out-Term t).factors) 1 s)) (sym (named_in_term-out t))
        (subst (λ b. Told b (all_of (map named_in_joined (out-Term t).factors))
        (product_value (map multiplier_of (out-Term t).factors) 1 s)) (sym (term_out t))
        (product_told (out-Term t).factors 1 each)));
    number = λ n. (
      told_is (divisor_in (factor.Number n)).inside (named_in_factor (factor.Number n)) (factor_value-Number n s) tt,
      λ loads is. ap above (factor.outs-Number n) ∙ ap (nat_lt 0) (gives_same [] loads n 0 (sym (factor_value-Number n s) ∙ is)),
    );
    variable = λ v. (
      told_is (divisor_in (factor.Variable v)).inside (named_in_factor (factor.Variable v))
          (factor_value-Variable v s) tt,
      λ loads is. ap above (factor.outs-Variable v),
    );
    temporary = λ t. (
      told_is (divisor_in (factor.Temporary t)).inside (named_in_factor (factor.Temporary t))
          (factor_value-Temporary t s) tt,
      λ loads is. ap above (factor.outs-Temporary t),
    );
    field = λ file field pointer. (
      told_is (divisor_in (factor.Field file field pointer)).inside (named_in_factor (factor.Field file field pointer))
          (factor_value-Field file field pointer s)
          (told_weaker false (divisor_in (factor.Field file field pointer)).inside (NamedField file field pointer ∷ [])
          (named_in_factor (factor.Field file field pointer)) (λ clash. false_true clash _)
          (λ n at. subst (λ ns. Contains ns n) (sym (named-Field file field pointer)) at) _
          (field_told (slice_get s.files file) file field pointer (NamedField file field pointer ∷ []) refl (first_is (NamedField file field pointer) []))),
      λ loads is. ap above (factor.outs-Field file field pointer),
    );
    bracket = λ e inside. (
      told_is (divisor_in (factor.Bracket e)).inside (named_in_factor (factor.Bracket e)) (factor_value-Bracket e s)
          (told_weaker (may_divide_by_zero e) (divisor_in (factor.Bracket e)).inside (named_in e)
          (named_in_factor (factor.Bracket e))
          (λ is. sym (inside_is (factor.Bracket e) (layer.Bracket e) (factor.outs-Bracket e)) ∙ is)
          (λ n at. subst (λ ns. Contains ns n) (sym (named-Bracket e)) at) (expr_value e s) inside),
      λ loads is. ap above (factor.outs-Bracket e),
    );
    reference = λ b. (
      told_is (divisor_in (factor.Reference b)).inside (named_in_factor (factor.Reference b))
          (factor_value-Reference b s) tt,
      λ loads is. ap above (factor.outs-Reference b),
    );
  }

  told_cause : (may : Bool) (names : List Named) (got : Got) (loads : List Touch) (f : Fault) → Told may names got → got ≡ Fails loads f → IsCause s may names f
  told_cause may names got loads f h is = subst (Told may names) is h

  pub expr_cause : (e : Expr) (loads : List Touch) (f : Fault) → expr_value e s ≡ Fails loads f → IsCause s (may_divide_by_zero e) (named_in e) f
  expr_cause e loads f is = told_cause (may_divide_by_zero e) (named_in e) (expr_value e s) loads f (every_expr told_parts e) is
