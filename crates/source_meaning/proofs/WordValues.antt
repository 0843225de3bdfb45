-- A value is a number of 32 bits, where the temporaries are, and each stored word fits its width.
use Rattle.std.proofs.Common.{◌≡◌, ℕ, zero, suc, ◌+◌, ◌<◌, ◌≤◌, ◌^◌, Bool, true, false, List, []}
use Rattle.std.proofs.Common.{◌∷◌, map, length, Option, Some, None, refl, sym, ap, ◌∙◌, subst}
use Rattle.std.proofs.Common.{slice_get, arith}
use Rattle.std.proofs.Math.Nat.{div-le_self, mod-le}
use Rattle.std.proofs.Math.Pow.{pow_mono}
use Rattle.std.specs.Prelude.{slice_index, slice_set}
use Rattle.std.specs.List.{AllByRecursion}
use Rattle.plex_limits.specs.declared.limits.TheConstants.{MOST_BLOCKS}
use Rattle.job_types.specs.declared.fault.Fault.{Fault}
use Rattle.exchange_model.specs.declared.exchange.Exchange.{Exchange}
use Rattle.exchange_model.specs.declared.block.Block.{Block}
use Rattle.exchange_model.specs.declared.block.Variable.{Variable}
use Rattle.exchange_model.specs.declared.expr.Expr.{Expr, out-Expr}
use Rattle.exchange_model.specs.declared.expr.Term.{Term, out-Term}
use Rattle.exchange_model.specs.declared.expr.Joined.{Joined}
use Rattle.exchange_model.specs.declared.expr.Factor.{Factor}
use Rattle.exchange_model.specs.declared.expr.Factor.TheVariants as factor
use Rattle.exchange_model.specs.declared.expr.FactorOp.{FactorOp}
use Rattle.exchange_model.specs.declared.expr.FactorOp.TheVariants.{Times, Divide, Modulo}
use Rattle.exchange_model.specs.Cells.{Placed, placed_files, field_cell, variable_cell}
use Rattle.exchange_model.specs.Fits.{FactorFits, IsField, ExprFits}
use Rattle.exchange_model.specs.Kept.{IsExchange, VariableFits, scope_of}
use Rattle.exchange_model.proofs.Layers.{expr_fits-out, term_fits-out, joined_fits-out}
use Rattle.exchange_model.proofs.Layers.{factor_fits-out}
use Rattle.exchange_model.specs.PartFits.{TermFits, JoinedFits, FactorOwnFits, InsideFits}
use Rattle.exchange_model.proofs.Facts.{variable_kept, field_kept}
use Rattle.plex_num.proofs.Lists.{some_at}
use Rattle.source_meaning.specs.Value.{Got, Gives, Fails, Eval, Sight, with_value, after_loads}
use Rattle.source_meaning.specs.Value.{joined, summed, sum_value, product_value, summand_of}
use Rattle.source_meaning.specs.Value.{multiplier_of, field_value, load_or_fault, pointer_fault}
use Rattle.source_meaning.specs.Value.{expr_value, term_value, factor_value}
use Rattle.source_meaning.specs.Config.{base_of, files_of}
use Rattle.source_meaning.specs.Valid.{IsWord, StoreFits}
use Rattle.source_meaning.proofs.Layers.{expr_value-out, term_value-out, factor_value-Number}
use Rattle.source_meaning.proofs.Layers.{factor_value-Variable, factor_value-Temporary}
use Rattle.source_meaning.proofs.Layers.{factor_value-Field, factor_value-Bracket}
use Rattle.source_meaning.proofs.Layers.{factor_value-Reference}
use Rattle.source_meaning.proofs.Parts.{NodeParts, every_expr}
use Rattle.source_meaning.proofs.Touching.{pointer_within, field_of}

-- the list of numbers of 32 bits, at each place and past its end

pub small_0 : IsWord 0
small_0 = omega arith

pub small_1 : IsWord 1
small_1 = omega arith

pub word_at : (vs : List ℕ) (i : ℕ) → AllByRecursion IsWord vs → IsWord (slice_index vs i)
word_at [] i all = small_0
word_at (v ∷ vs) zero all = all.0
word_at (v ∷ vs) (suc i) all = word_at vs i all.1

pub words_set : (vs : List ℕ) (i v : ℕ) → IsWord v → AllByRecursion IsWord vs → AllByRecursion IsWord (slice_set vs i v)
words_set [] i v small all = tt
words_set (w ∷ vs) zero v small all = (small, all.1)
words_set (w ∷ vs) (suc i) v small all = (all.0, words_set vs i v small all.1)

pub width_word : (v : ℕ) (e : Variable) → VariableFits e → v < 2 ^ e.width → IsWord v
width_word v e fits lt = let most : 2 ^ e.width ≤ 2 ^ 32 = pow_mono fits.few in omega (arith, lt, most)

abbrev pub GotWord : Got → Type 0
GotWord (Gives loads v) = IsWord v
GotWord (Fails loads f) = Unit {0}

pub word_with : (got : Got) (go : ℕ → Got) → GotWord got → ((v : ℕ) → IsWord v → GotWord (go v)) → GotWord (with_value got go)
word_with (Gives loads v) go here more = after (go v) (more v here)
  where
    after : (next : Got) → GotWord next → GotWord (after_loads loads next)
    after (Gives ls w) h = h
    after (Fails ls f) h = tt
word_with (Fails loads f) go here more = tt

summed_word : (minus : Bool) (sum v : ℕ) → IsWord (summed minus sum v)
summed_word true sum v = omega arith
summed_word false sum v = omega arith

joined_word : (by : FactorOp) (a b : ℕ) → IsWord a → GotWord (joined by a b)
joined_word Times a b small = omega arith
joined_word Divide a zero small = tt
joined_word Divide a (suc b) small = omega (arith, div-le_self a (suc b))
joined_word Modulo a zero small = tt
joined_word Modulo a (suc b) small = omega (arith, mod-le a (suc b))

module _ (x : Exchange) (kept : IsExchange x) (b : ℕ) (k : Block) (there : slice_get x.blocks b ≡ Some k) (s : Sight)
    (small : AllByRecursion IsWord s.temps) (fits : StoreFits x s.store) (first : s.first ≡ base_of x b)
    (files : s.files ≡ files_of x) where
  abbrev ExprWord : Expr → Type 0
  ExprWord e = ExprFits (scope_of x b k) e → GotWord (expr_value e s)

  abbrev TermWord : Term → Type 0
  TermWord t = TermFits (scope_of x b k) t → GotWord (term_value t s)

  abbrev FactorWord : Factor → Type 0
  FactorWord f = FactorOwnFits (scope_of x b k) f → GotWord (factor_value f s)

  sum_word : (ts : List Term) (sum : ℕ) → IsWord sum → AllByRecursion TermWord ts
      → AllByRecursion (TermFits (scope_of x b k)) ts → GotWord (sum_value (map summand_of ts) sum s)
  sum_word [] sum now each fit = now
  sum_word (t ∷ ts) sum now each fit =
      word_with (term_value t s) (λ v. sum_value (map summand_of ts) (summed (out-Term t).minus sum v) s) (each.0 fit.0)
      (λ v w. sum_word ts (summed (out-Term t).minus sum v) (summed_word (out-Term t).minus sum v) each.1 fit.1)

  product_word : (js : List Joined) (product : ℕ) → IsWord product
      → AllByRecursion (λ (j : Joined). FactorWord j.factor) js → AllByRecursion (JoinedFits (scope_of x b k)) js
      → GotWord (product_value (map multiplier_of js) product s)
  product_word [] product now each fit = now
  product_word (j ∷ js) product now each fit =
      word_with (factor_value j.factor s) (λ v. with_value (joined j.by product v)
      (λ p. product_value (map multiplier_of js) p s)) (each.0 (joined_fits-out (scope_of x b k) j fit.0))
      (λ v w. word_with (joined j.by product v) (λ p. product_value (map multiplier_of js) p s)
      (joined_word j.by product v now) (λ p z. product_word js p z each.1 fit.1))

  pub variable_word : (v : ℕ) → v < length k.variables → IsWord (slice_index s.store (s.first + v))
  unfolding base_of
  variable_word v lt =
      let e = some_at k.variables v lt in
      let at : s.first + v ≡ variable_cell x.blocks b v = ap (λ n. n + v) first in
      subst (λ n. IsWord (slice_index s.store n)) (sym at)
      (width_word (slice_index s.store (variable_cell x.blocks b v)) e.0 (variable_kept x kept b v k e.0 there e.1)
      (fits.variables b v k e.0 there e.1))

  field_word : (file field number : ℕ) (found : Option Placed) → IsField (scope_of x b k) file field
      → slice_get s.files file ≡ found → GotWord (field_value found file field number s)
  unfolding files_of
  field_word file field number None f at = small_0
  field_word file field number (Some p) f at = by (pointer_fault s.chain file p number) refl
    where
      placed : slice_get (placed_files x.blocks) file ≡ Some p
      placed = ap (λ fs. slice_get fs file) (sym files) ∙ at

      by : (found : Option Fault) → pointer_fault s.chain file p number ≡ found → GotWord (load_or_fault found (field_cell p number field) s)
      by None sound =
          let e = some_at p.file.fields field (field_of x kept b k file field p f placed) in
          width_word (slice_index s.store (field_cell p number field)) e.0
          (field_kept x kept file field p e.0 placed e.1)
          (fits.fields file number field p e.0
          (record { there = placed; within = pointer_within s.chain file p number sound }) e.1)
      by (Some fault) sound = tt

  blocks_few : length x.blocks ≤ MOST_BLOCKS
  blocks_few = kept.blocks.few

  word_is : {got next : Got} → got ≡ next → GotWord next → GotWord got
  word_is is h = subst GotWord (sym is) h

  word_parts : NodeParts ExprWord TermWord FactorWord
  word_parts = record {
    expr = λ e each fit. word_is (ap (λ (v : Eval). v s) (expr_value-out e))
        (sum_word (out-Expr e).terms 0 small_0 each (expr_fits-out (scope_of x b k) e fit).1);
    term = λ t each fit. word_is (ap (λ (v : Eval). v s) (term_value-out t))
        (product_word (out-Term t).factors 1 small_1 each (term_fits-out (scope_of x b k) t fit).1);
    number = λ n fit. word_is (factor_value-Number n s)
        (subst (FactorFits (scope_of x b k)) (factor.outs-Number n)
        (factor_fits-out (scope_of x b k) (factor.Number n) fit).0);
    variable = λ v fit. word_is (factor_value-Variable v s)
        (variable_word v (subst (FactorFits (scope_of x b k)) (factor.outs-Variable v)
        (factor_fits-out (scope_of x b k) (factor.Variable v) fit).0));
    temporary = λ t fit. word_is (factor_value-Temporary t s) (word_at s.temps t small);
    field = λ file field pointer fit. word_is (factor_value-Field file field pointer s)
        (field_word file field (slice_index s.temps pointer) (slice_get s.files file)
        (subst (FactorFits (scope_of x b k)) (factor.outs-Field file field pointer)
        (factor_fits-out (scope_of x b k) (factor.Field file field pointer) fit).0).0 refl);
    bracket = λ e inside fit. word_is (factor_value-Bracket e s)
        (inside (subst (InsideFits (scope_of x b k)) (factor.outs-Bracket e)
        (factor_fits-out (scope_of x b k) (factor.Bracket e) fit).1));
    reference = λ n fit. word_is (factor_value-Reference n s)
        (let lt : n < length x.blocks = subst (FactorFits (scope_of x b k)) (factor.outs-Reference n)
        (factor_fits-out (scope_of x b k) (factor.Reference n) fit).0 in omega (arith, lt, blocks_few));
  }

  pub expr_word : (e : Expr) → ExprFits (scope_of x b k) e → GotWord (expr_value e s)
  expr_word e = every_expr word_parts e
