-- The values of an expression stand for the number that it gives.
--
-- An expression of one operand lone_source gives that operand, since it is a number of 32 bits; of
-- all others any number is said.
use Rattle.std.proofs.Common.{◌≡◌, ◌⊎◌, inl, inr, ℕ, ◌+◌, ◌*◌, ◌%◌, ◌^◌, ◌<◌, ◌≤◌, Bool, true}
use Rattle.std.proofs.Common.{false, List, [], ◌∷◌, map, length, refl, sym, ap, ◌∙◌, subst, arith}
use Rattle.std.proofs.lemmas.Bool.{ltb-true}
use Rattle.std.specs.Prelude.{nat_lt, slice_index, if◌then◌else◌}
use Rattle.std.specs.List.{AllByRecursion}
use Rattle.plex_limits.specs.declared.limits.TheConstants.{MOST_BLOCKS}
use Rattle.job_types.specs.declared.touch.Touch.{Touch}
use Rattle.exchange_model.specs.declared.exchange.Exchange.{Exchange}
use Rattle.exchange_model.specs.declared.block.Block.{Block}
use Rattle.exchange_model.specs.declared.expr.Expr.{Expr, out-Expr}
use Rattle.exchange_model.specs.declared.expr.Term.{Term, out-Term}
use Rattle.exchange_model.specs.declared.expr.Joined.{Joined}
use Rattle.exchange_model.specs.declared.expr.Factor.{Factor}
use Rattle.exchange_model.specs.declared.expr.Factor.TheVariants as factor
use Rattle.exchange_model.specs.declared.expr.FactorOp.TheVariants.{Times}
use Rattle.exchange_model.specs.Fits.{FactorFits, TermsStand, FactorsStand, ExprFits}
use Rattle.exchange_model.specs.Kept.{IsExchange, scope_of}
use Rattle.exchange_model.specs.PartFits.{TermFits, JoinedFits, FactorOwnFits, InsideFits}
use Rattle.exchange_model.proofs.Layers.{expr_fits-out, term_fits-out, joined_fits-out}
use Rattle.exchange_model.proofs.Layers.{factor_fits-out}
use Rattle.source_meaning.specs.Value.{Got, Gives, Fails, Eval, Sight, with_value, joined, summed}
use Rattle.source_meaning.specs.Value.{sum_value, product_value, summand_of, multiplier_of}
use Rattle.source_meaning.specs.Value.{expr_value, term_value, factor_value}
use Rattle.source_meaning.specs.Valid.{IsWord}
use Rattle.source_meaning.proofs.Layers.{expr_value-out, term_value-out, factor_value-Number}
use Rattle.source_meaning.proofs.Layers.{factor_value-Temporary, factor_value-Bracket}
use Rattle.source_meaning.proofs.Layers.{factor_value-Reference}
use Rattle.source_meaning.proofs.Parts.{NodeParts, every_expr}
use Rattle.source_meaning.proofs.WordValues.{word_at}
use Rattle.flow_points.specs.declared.fact.Slot.TheVariants.{Temp}
use Rattle.flow_points.specs.declared.fact.Value.TheVariants.{Const, Any}
use Rattle.flow_points.specs.declared.flow.Source.{Source}
use Rattle.flow_points.specs.declared.flow.Source.TheVariants.{Of, Is}
use Rattle.flow_points.specs.declared.limits.TheConstants.{SMALL_NUMBERS}
use Rattle.flow_points.specs.Sources.{lone_source, expr_source}
use Rattle.flow_points.specs.Facts.{Facts}
use Rattle.flow_table.specs.Alone.{term_source, joined_source, own_source, inside_source}
use Rattle.flow_table.proofs.Sourcing.{expr_source-out, term_source-out, joined_source-out}
use Rattle.flow_table.proofs.Sourcing.{own_source-out}
use Rattle.fact_laws.proofs.Carrying.{Gets}

small_word : (n : ℕ) → n < SMALL_NUMBERS → IsWord n
small_word n lt = omega arith

once : (v : ℕ) → IsWord v → v ≡ (1 * v) % 2 ^ 32
once v w = omega arith

added : (v : ℕ) → IsWord v → v ≡ summed false 0 v
added v w = omega arith

reference_word : (n many : ℕ) → n < many → many ≤ MOST_BLOCKS → IsWord (n + 1)
reference_word n many lt few = omega arith

module _ (P : Facts) (e : ℕ) (args : List ℕ) (p : ℕ) where
  -- where nothing is said but any number, or the number is one of 32 bits for which a value stands
  abbrev Sourced : Source → Got → Type 0
  Sourced s (Gives loads v) = (s ≡ Is Any) ⊎ (Gets P e args p s v × IsWord v)
  Sourced s (Fails loads f) = Unit {0}

  any_sourced : (got : Got) → Sourced (Is Any) got
  any_sourced (Gives loads v) = inl refl
  any_sourced (Fails loads f) = tt

  sourced_is : {s t : Source} {got next : Got} → s ≡ t → got ≡ next → Sourced t next → Sourced s got
  sourced_is {s} {t} {got} {next} same is h = subst (λ u. Sourced u got) (sym same) (subst (Sourced t) (sym is) h)

  number_sourced : (n : ℕ) (small : Bool) → nat_lt n SMALL_NUMBERS ≡ small → Sourced (if small then Is (Const n) else Is Any) (Gives [] n)
  number_sourced n true is = inr ((Const n, refl, refl), small_word n (ltb-true n SMALL_NUMBERS is))
  number_sourced n false is = inl refl

  times_sourced : (s : Source) (got : Got) → Sourced s got → Sourced s (with_value got (λ v. with_value (joined Times 1 v) (λ r. Gives [] r)))
  times_sourced s (Gives loads v) (inl any) = inl any
  times_sourced s (Gives loads v) (inr h) = inr (subst (λ n. Gets P e args p s n × IsWord n) (once v h.1) h)
  times_sourced s (Fails loads f) h = tt

  plus_sourced : (s : Source) (got : Got) → Sourced s got → Sourced s (with_value got (λ v. Gives [] (summed false 0 v)))
  plus_sourced s (Gives loads v) (inl any) = inl any
  plus_sourced s (Gives loads v) (inr h) = inr (subst (λ n. Gets P e args p s n × IsWord n) (added v h.1) h)
  plus_sourced s (Fails loads f) h = tt

  sourced_gets : (s : Source) (got : Got) (loads : List Touch) (v : ℕ) → Sourced s got → got ≡ Gives loads v → Gets P e args p s v
  sourced_gets s got loads v h is = by (subst (Sourced s) is h)
    where
      by : (s ≡ Is Any) ⊎ (Gets P e args p s v × IsWord v) → Gets P e args p s v
      by (inl any) = subst (λ t. Gets P e args p t v) (sym any) (Any, refl, tt)
      by (inr g) = g.0

  module _ (x : Exchange) (kept : IsExchange x) (b : ℕ) (k : Block) (s : Sight) (small : AllByRecursion IsWord s.temps)
      (known : (t : ℕ) → t < length k.temporaries → Gets P e args p (Of (Temp t)) (slice_index s.temps t)) where
    abbrev ExprSourced : Expr → Type 0
    ExprSourced ex = ExprFits (scope_of x b k) ex → Sourced (expr_source ex) (expr_value ex s)

    abbrev TermSourced : Term → Type 0
    TermSourced t = TermFits (scope_of x b k) t → Sourced (term_source t) (term_value t s)

    abbrev FactorSourced : Factor → Type 0
    FactorSourced f = FactorOwnFits (scope_of x b k) f → Sourced (own_source f) (factor_value f s)

    sum_sourced : (ts : List Term) → TermsStand ts → AllByRecursion TermSourced ts
        → AllByRecursion (TermFits (scope_of x b k)) ts
        → Sourced (lone_source (map term_source ts)) (sum_value (map summand_of ts) 0 s)
    sum_sourced [] stands each fit = absurd stands
    sum_sourced (t ∷ []) stands each fit =
        subst (λ minus. Sourced (term_source t) (with_value (term_value t s) (λ v. Gives [] (summed minus 0 v))))
        (sym stands) (plus_sourced (term_source t) (term_value t s) (each.0 fit.0))
    sum_sourced (t ∷ u ∷ ts) stands each fit = any_sourced (sum_value (map summand_of (t ∷ u ∷ ts)) 0 s)

    product_sourced : (js : List Joined) → FactorsStand js → AllByRecursion (λ (j : Joined). FactorSourced j.factor) js
        → AllByRecursion (JoinedFits (scope_of x b k)) js
        → Sourced (lone_source (map joined_source js)) (product_value (map multiplier_of js) 1 s)
    product_sourced [] stands each fit = absurd stands
    product_sourced (j ∷ []) stands each fit =
        subst (λ by. Sourced (joined_source j) (with_value (factor_value j.factor s) (λ v. with_value (joined by 1 v) (λ r. Gives [] r)))) (sym stands)
        (times_sourced (joined_source j) (factor_value j.factor s) (sourced_is (joined_source-out j) refl (each.0 (joined_fits-out (scope_of x b k) j fit.0))))
    product_sourced (j ∷ i ∷ js) stands each fit = any_sourced (product_value (map multiplier_of (j ∷ i ∷ js)) 1 s)

    source_parts : NodeParts ExprSourced TermSourced FactorSourced
    source_parts = record {
      expr = λ ex each fit. (let f = expr_fits-out (scope_of x b k) ex fit in sourced_is (expr_source-out ex)
          (ap (λ (v : Eval). v s) (expr_value-out ex)) (sum_sourced (out-Expr ex).terms f.0 each f.1));
      term = λ t each fit. (let f = term_fits-out (scope_of x b k) t fit in sourced_is (term_source-out t)
          (ap (λ (v : Eval). v s) (term_value-out t)) (product_sourced (out-Term t).factors f.0 each f.1));
      number = λ n fit. sourced_is (own_source-out (factor.Number n) ∙ ap inside_source (factor.outs-Number n))
          (factor_value-Number n s) (number_sourced n (nat_lt n SMALL_NUMBERS) refl);
      variable = λ v fit. sourced_is (own_source-out (factor.Variable v) ∙ ap inside_source (factor.outs-Variable v))
          refl (any_sourced (factor_value (factor.Variable v) s));
      temporary = λ t fit. sourced_is (own_source-out (factor.Temporary t) ∙ ap inside_source (factor.outs-Temporary t)) (factor_value-Temporary t s)
          (inr (
            known t (subst (FactorFits (scope_of x b k)) (factor.outs-Temporary t)
                (factor_fits-out (scope_of x b k) (factor.Temporary t) fit).0),
            word_at s.temps t small,
          ));
      field = λ file field pointer fit. sourced_is
          (own_source-out (factor.Field file field pointer) ∙ ap inside_source (factor.outs-Field file field pointer))
          refl (any_sourced (factor_value (factor.Field file field pointer) s));
      bracket = λ ex inside fit. sourced_is (own_source-out (factor.Bracket ex) ∙ ap inside_source (factor.outs-Bracket ex)) (factor_value-Bracket ex s)
          (inside (subst (InsideFits (scope_of x b k)) (factor.outs-Bracket ex) (factor_fits-out (scope_of x b k) (factor.Bracket ex) fit).1));
      reference = λ n fit. sourced_is (own_source-out (factor.Reference n) ∙ ap inside_source (factor.outs-Reference n)) (factor_value-Reference n s)
          (inr (
            (Const (n + 1), refl, refl),
            reference_word n (length x.blocks)
                (subst (FactorFits (scope_of x b k)) (factor.outs-Reference n)
                (factor_fits-out (scope_of x b k) (factor.Reference n) fit).0) kept.blocks.few,
          ));
    }

    pub expr_gets : (ex : Expr) → ExprFits (scope_of x b k) ex → (loads : List Touch) (v : ℕ)
        → expr_value ex s ≡ Gives loads v → Gets P e args p (expr_source ex) v
    expr_gets ex fit loads v is = sourced_gets (expr_source ex) (expr_value ex s) loads v (every_expr source_parts ex fit) is
