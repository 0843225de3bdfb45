-- What an expression gives over other words that are the same wherever it names one.
use Rattle.std.proofs.Common.{◌≡◌, ℕ, ◌+◌, List, [], ◌∷◌, map, Option, Some, None, refl, sym, ap}
use Rattle.std.proofs.Common.{◌∙◌, subst, slice_get}
use Rattle.std.specs.Prelude.{slice_index}
use Rattle.std.specs.List.{AllByRecursion}
use Rattle.plex_num.proofs.Lists.{all_left, all_right}
use Rattle.job_types.specs.declared.fault.Fault.{Fault}
use Rattle.job_types.specs.declared.touch.Touch.TheVariants.{Load}
use Rattle.exchange_model.specs.declared.expr.Expr.{Expr, out-Expr}
use Rattle.exchange_model.specs.declared.expr.Term.{Term, out-Term}
use Rattle.exchange_model.specs.declared.expr.Joined.{Joined}
use Rattle.exchange_model.specs.declared.expr.Factor.{Factor}
use Rattle.exchange_model.specs.Cells.{Placed, field_cell}
use Rattle.exchange_model.specs.Inside.{joined as all_of}
use Rattle.source_meaning.specs.Named.{Named, NamedVariable, NamedField, named_in, named_in_term}
use Rattle.source_meaning.specs.Named.{named_in_factor, named_in_joined}
use Rattle.source_meaning.specs.Value.{Got, Gives, Fails, Eval, Sight, after_loads, with_value}
use Rattle.source_meaning.specs.Value.{joined, summed, sum_value, product_value, summand_of}
use Rattle.source_meaning.specs.Value.{multiplier_of, field_value, load_or_fault, pointer_fault}
use Rattle.source_meaning.specs.Value.{cell_value, expr_value, term_value, factor_value}
use Rattle.source_meaning.proofs.Layers.{expr_value-out, term_value-out, factor_value-Number}
use Rattle.source_meaning.proofs.Layers.{factor_value-Variable, factor_value-Temporary}
use Rattle.source_meaning.proofs.Layers.{factor_value-Field, factor_value-Bracket}
use Rattle.source_meaning.proofs.Layers.{factor_value-Reference}
use Rattle.source_meaning.proofs.Naming.{named_in-out, named_in_term-out, named-Variable}
use Rattle.source_meaning.proofs.Naming.{named-Field, named-Bracket}
use Rattle.source_meaning.proofs.Parts.{NodeParts, every_term}
use Rattle.source_meaning.proofs.Reading.{over}

module _ (t : List ℕ) (s : Sight) where
  -- the words are the same where this is
  abbrev pub SameAt : Named → Type 0
  SameAt (NamedVariable v) = slice_index t (s.first + v) ≡ slice_index s.store (s.first + v)
  SameAt (NamedField file field pointer) = (p : Placed) → slice_get s.files file ≡ Some p → pointer_fault s.chain file p (slice_index s.temps pointer) ≡ None
      → slice_index t (field_cell p (slice_index s.temps pointer) field) ≡ slice_index s.store (field_cell p (slice_index s.temps pointer) field)

  abbrev pub SameOf : List Named → Type 0
  SameOf names = AllByRecursion SameAt names

  abbrev ExprSame : Expr → Type 0
  ExprSame e = SameOf (named_in e) → expr_value e (over t s) ≡ expr_value e s

  abbrev pub TermSame : Term → Type 0
  TermSame e = SameOf (named_in_term e) → term_value e (over t s) ≡ term_value e s

  abbrev FactorSame : Factor → Type 0
  FactorSame f = SameOf (named_in_factor f) → factor_value f (over t s) ≡ factor_value f s

  -- goes on alike with the same value
  same_with : (got got' : Got) (go go' : ℕ → Got) → got' ≡ got → ((v : ℕ) → go' v ≡ go v) → with_value got' go' ≡ with_value got go
  same_with (Gives loads v) got' go go' first more = ap (λ g. with_value g go') first ∙ ap (after_loads loads) (more v)
  same_with (Fails loads f) got' go go' first more = ap (λ g. with_value g go') first

  sum_same : (ts : List Term) (sum : ℕ) → AllByRecursion TermSame ts → SameOf (all_of (map named_in_term ts))
      → sum_value (map summand_of ts) sum (over t s) ≡ sum_value (map summand_of ts) sum s
  sum_same [] sum each at = refl
  sum_same (e ∷ ts) sum each at =
      let here = all_left SameAt (named_in_term e) (all_of (map named_in_term ts)) at in
      let later = all_right SameAt (named_in_term e) (all_of (map named_in_term ts)) at in
      let rest = λ (z : Sight) (v : ℕ). sum_value (map summand_of ts) (summed (out-Term e).minus sum v) z in
      same_with (term_value e s) (term_value e (over t s)) (rest s) (rest (over t s)) (each.0 here)
      (λ v. sum_same ts (summed (out-Term e).minus sum v) each.1 later)

  product_same : (js : List Joined) (product : ℕ) → AllByRecursion (λ (j : Joined). FactorSame j.factor) js
      → SameOf (all_of (map named_in_joined js))
      → product_value (map multiplier_of js) product (over t s) ≡ product_value (map multiplier_of js) product s
  product_same [] product each at = refl
  product_same (j ∷ js) product each at =
      let here = all_left SameAt (named_in_factor j.factor) (all_of (map named_in_joined js)) at in
      let later = all_right SameAt (named_in_factor j.factor) (all_of (map named_in_joined js)) at in
      let last = λ (z : Sight) (p : ℕ). product_value (map multiplier_of js) p z in
      let rest = λ (z : Sight) (v : ℕ). with_value (joined j.by product v) (last z) in
      same_with (factor_value j.factor s) (factor_value j.factor (over t s)) (rest s) (rest (over t s)) (each.0 here)
      (λ v. same_with (joined j.by product v) (joined j.by product v) (last s) (last (over t s)) refl (λ p. product_same js p each.1 later))

  cell_same : (cell : ℕ) → slice_index t cell ≡ slice_index s.store cell → cell_value cell (over t s) ≡ cell_value cell s
  cell_same cell at = ap (λ v. Gives (Load cell v ∷ []) v) at

  field_same : (found : Option Placed) (file field number : ℕ)
      → ((p : Placed) → found ≡ Some p → pointer_fault s.chain file p number ≡ None
      → slice_index t (field_cell p number field) ≡ slice_index s.store (field_cell p number field))
      → field_value found file field number (over t s) ≡ field_value found file field number s
  field_same None file field number at = refl
  field_same (Some p) file field number at = by (pointer_fault s.chain file p number) refl
    where
      by : (found : Option Fault) → pointer_fault s.chain file p number ≡ found
          → load_or_fault found (field_cell p number field) (over t s)
          ≡ load_or_fault found (field_cell p number field) s
      by None sound = cell_same (field_cell p number field) (at p refl sound)
      by (Some f) sound = refl

  same_by : (u v : Eval) → u ≡ v → v (over t s) ≡ v s → u (over t s) ≡ u s
  same_by u v is h = subst (λ (z : Eval). z (over t s) ≡ z s) (sym is) h

  node_parts : NodeParts ExprSame TermSame FactorSame
  node_parts = record {
    expr = λ e each at. same_by (expr_value e) (sum_value (map summand_of (out-Expr e).terms) 0) (expr_value-out e)
        (sum_same (out-Expr e).terms 0 each (subst SameOf (named_in-out e) at));
    term = λ e each at. same_by (term_value e) (product_value (map multiplier_of (out-Term e).factors) 1)
        (term_value-out e) (product_same (out-Term e).factors 1 each (subst SameOf (named_in_term-out e) at));
    number = λ n at. factor_value-Number n (over t s) ∙ sym (factor_value-Number n s);
    variable = λ v at. factor_value-Variable v (over t s) ∙ cell_same (s.first + v) (subst SameOf (named-Variable v) at).0 ∙ sym (factor_value-Variable v s);
    temporary = λ n at. factor_value-Temporary n (over t s) ∙ sym (factor_value-Temporary n s);
    field = λ file field pointer at. factor_value-Field file field pointer (over t s)
        ∙ field_same (slice_get s.files file) file field (slice_index s.temps pointer)
        (subst SameOf (named-Field file field pointer) at).0 ∙ sym (factor_value-Field file field pointer s);
    bracket = λ e inside at. factor_value-Bracket e (over t s) ∙ inside (subst SameOf (named-Bracket e) at) ∙ sym (factor_value-Bracket e s);
    reference = λ b at. factor_value-Reference b (over t s) ∙ sym (factor_value-Reference b s);
  }

  pub term_same : (e : Term) → TermSame e
  term_same e = every_term node_parts e
