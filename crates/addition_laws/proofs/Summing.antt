-- An addition over words that have more at its variable or field gives as much more, or the same
-- fault.
use Rattle.std.proofs.Common.{◌≡◌, ℕ, zero, suc, ◌+◌, ◌*◌, ◌/◌, ◌%◌, ◌^◌, ◌<◌, Bool, true, false}
use Rattle.std.proofs.Common.{List, [], ◌∷◌, ◌++◌, map, Option, Some, None, refl, sym, ap, ◌∙◌}
use Rattle.std.proofs.Common.{subst, slice_get, arith}
use Rattle.std.proofs.Math.Nat.{div-le_self, mod-le}
use Rattle.std.specs.Prelude.{slice_index}
use Rattle.std.specs.List.{AllByRecursion}
use Rattle.job_types.specs.declared.fault.Fault.{Fault}
use Rattle.job_types.specs.declared.touch.Touch.{Touch}
use Rattle.exchange_model.specs.declared.expr.Expr.{Expr, out-Expr}
use Rattle.exchange_model.specs.declared.expr.Term.{Term, out-Term}
use Rattle.exchange_model.specs.declared.expr.Factor.TheVariants as factor
use Rattle.exchange_model.specs.declared.expr.FactorOp.{FactorOp}
use Rattle.exchange_model.specs.declared.expr.FactorOp.TheVariants.{Times, Divide, Modulo}
use Rattle.exchange_model.specs.Cells.{Placed, field_cell}
use Rattle.source_meaning.specs.Named.{Named, named_in_term}
use Rattle.source_meaning.specs.Value.{Got, Gives, Fails, Eval, Sight, Multiplier, after_loads}
use Rattle.source_meaning.specs.Value.{with_value, joined, summed, sum_value, product_value}
use Rattle.source_meaning.specs.Value.{summand_of, multiplier_of, cell_value, field_value}
use Rattle.source_meaning.specs.Value.{load_or_fault, pointer_fault, expr_value, factor_value}
use Rattle.source_meaning.specs.Value.{term_value}
use Rattle.source_meaning.proofs.Layers.{expr_value-out, term_value-out, factor_value-Field}
use Rattle.source_meaning.proofs.Layers.{factor_value-Variable}
use Rattle.source_meaning.proofs.Reading.{over}
use Rattle.additions_meaning.specs.Additions.{IsAdditionTo, IsNameTerm, factor_of}
use Rattle.addition_laws.proofs.Naming.{SameOf, term_same}
use Rattle.addition_laws.proofs.Shifting.{more_added, more_taken, more_itself}

-- the value is a word, if there is one
abbrev pub GivesWord : Got → Type 0
GivesWord (Gives loads v) = v < 2 ^ 32
GivesWord (Fails loads f) = Unit {0}

-- the second value is so much more, or the fault is the same; which loads were made is not looked
-- at
abbrev pub GivesMore : ℕ → Got → Got → Type 0
GivesMore k (Gives loads v) (Gives others w) = w ≡ (v + k) % 2 ^ 32
GivesMore k (Fails loads f) (Fails others g) = g ≡ f
GivesMore k (Gives loads v) (Fails others g) = ⊥
GivesMore k (Fails loads f) (Gives others w) = ⊥

word_after : (loads : List Touch) (got : Got) → GivesWord got → GivesWord (after_loads loads got)
word_after loads (Gives more v) h = h
word_after loads (Fails more f) h = h

word_with : (got : Got) (go : ℕ → Got) → ((v : ℕ) → GivesWord (go v)) → GivesWord (with_value got go)
word_with (Gives loads v) go more = word_after loads (go v) (more v)
word_with (Fails loads f) go more = tt

-- a word stays one, by whatever it is multiplied or divided
joined_word : (by : FactorOp) (product v : ℕ) (go : ℕ → Got) → product < 2 ^ 32
    → ((p : ℕ) → p < 2 ^ 32 → GivesWord (go p)) → GivesWord (with_value (joined by product v) go)
joined_word Times product v go now more = word_after [] (go ((product * v) % 2 ^ 32)) (more ((product * v) % 2 ^ 32) (omega arith))
joined_word Divide product zero go now more = tt
joined_word Divide product (suc v) go now more =
    let low = div-le_self product (suc v) in
    word_after [] (go (product / suc v)) (more (product / suc v) (omega (arith, low, now)))
joined_word Modulo product zero go now more = tt
joined_word Modulo product (suc v) go now more =
    let low = mod-le product (suc v) in
    word_after [] (go (product % suc v)) (more (product % suc v) (omega (arith, low, now)))

product_word : (ms : List Multiplier) (product : ℕ) (s : Sight) → product < 2 ^ 32 → GivesWord (product_value ms product s)
product_word [] product s now = now
product_word (m ∷ ms) product s now =
    word_with (m.value s) (λ v. with_value (joined m.by product v) (λ p. product_value ms p s))
    (λ v. joined_word m.by product v (λ p. product_value ms p s) now (λ p low. product_word ms p s low))

term_word : (e : Term) (s : Sight) → GivesWord (term_value e s)
term_word e s = subst (λ (v : Eval). GivesWord (v s)) (sym (term_value-out e)) (product_word (map multiplier_of (out-Term e).factors) 1 s (omega arith))

summed_word : (minus : Bool) (sum v : ℕ) → summed minus sum v < 2 ^ 32
summed_word true sum v = omega arith
summed_word false sum v = omega arith

sum_word : (ts : List Term) (sum : ℕ) (s : Sight) → sum < 2 ^ 32 → GivesWord (sum_value (map summand_of ts) sum s)
sum_word [] sum s now = now
sum_word (e ∷ ts) sum s now =
    let minus = (out-Term e).minus in
    word_with (term_value e s) (λ v. sum_value (map summand_of ts) (summed minus sum v) s) (λ v. sum_word ts (summed minus sum v) s (summed_word minus sum v))

-- an expression gives a word
pub expr_word : (e : Expr) (s : Sight) → GivesWord (expr_value e s)
expr_word e s = subst (λ (v : Eval). GivesWord (v s)) (sym (expr_value-out e)) (sum_word (out-Expr e).terms 0 s (omega arith))

more_after : (k : ℕ) (loads others : List Touch) (got next : Got) → GivesMore k got next → GivesMore k (after_loads loads got) (after_loads others next)
more_after k loads others (Gives a v) (Gives b w) h = h
more_after k loads others (Fails a f) (Fails b g) h = h
more_after k loads others (Gives a v) (Fails b g) h = absurd h
more_after k loads others (Fails a f) (Gives b w) h = absurd h

-- two goings on from the same value
more_with : (k : ℕ) (got same : Got) (go next : ℕ → Got) → GivesWord got → same ≡ got
    → ((v : ℕ) → v < 2 ^ 32 → GivesMore k (go v) (next v)) → GivesMore k (with_value got go) (with_value same next)
more_with k (Gives loads v) same go next word is more = subst
    (λ g. GivesMore k (after_loads loads (go v)) (with_value g next)) (sym is)
    (more_after k loads loads (go v) (next v) (more v word))
more_with k (Fails loads f) same go next word is more = subst (λ g. GivesMore k (Fails loads f) (with_value g next)) (sym is) refl

module _ (t : List ℕ) (s : Sight) (k : ℕ) where
  abbrev Same : Term → Type 0
  Same e = term_value e (over t s) ≡ term_value e s

  summed_more : (minus : Bool) (sum v : ℕ) → v < 2 ^ 32 → summed minus ((sum + k) % 2 ^ 32) v ≡ (summed minus sum v + k) % 2 ^ 32
  summed_more true sum v low = more_taken (2 ^ 32) k sum v (omega arith)
  summed_more false sum v low = more_added (2 ^ 32) k sum v

  -- the terms after the variable
  back_more : (ts : List Term) (sum : ℕ) → AllByRecursion Same ts
      → GivesMore k (sum_value (map summand_of ts) sum s)
      (sum_value (map summand_of ts) ((sum + k) % 2 ^ 32) (over t s))
  back_more [] sum each = refl
  back_more (e ∷ ts) sum each =
      let minus = (out-Term e).minus in
      let go = λ (sum : ℕ) (z : Sight) (v : ℕ). sum_value (map summand_of ts) (summed minus sum v) z in
      more_with k (term_value e s) (term_value e (over t s)) (go sum s) (go ((sum + k) % 2 ^ 32) (over t s)) (term_word e s) each.0
      (λ v low. subst (λ n. GivesMore k (go sum s v) (sum_value (map summand_of ts) n (over t s)))
      (sym (summed_more minus sum v low)) (back_more ts (summed minus sum v) each.1))

  -- the terms before it
  front_more : (ts rest : List Term) (sum : ℕ) → AllByRecursion Same ts
      → ((sum : ℕ) → GivesMore k (sum_value (map summand_of rest) sum s)
      (sum_value (map summand_of rest) sum (over t s)))
      → GivesMore k (sum_value (map summand_of (ts ++ rest)) sum s) (sum_value (map summand_of (ts ++ rest)) sum (over t s))
  front_more [] rest sum each more = more sum
  front_more (e ∷ ts) rest sum each more =
      let minus = (out-Term e).minus in
      let go = λ (z : Sight) (v : ℕ). sum_value (map summand_of (ts ++ rest)) (summed minus sum v) z in
      more_with k (term_value e s) (term_value e (over t s)) (go s) (go (over t s)) (term_word e s) each.0
      (λ v low. front_more ts rest (summed minus sum v) each.1 more)

  -- the name itself

  abbrev own_product : ℕ → Got
  own_product v = with_value (joined Times 1 v) (λ p. Gives [] p)

  abbrev goes_on : List Term → ℕ → Sight → Bool → ℕ → Got
  goes_on back sum z minus v = sum_value (map summand_of back) (summed minus sum v) z

  name_more : (back : List Term) (sum : ℕ) (got next : Got) → AllByRecursion Same back → GivesMore k got next
      → GivesMore k (with_value (with_value got own_product) (goes_on back sum s false))
      (with_value (with_value next own_product) (goes_on back sum (over t s) false))
  name_more back sum (Gives loads v) (Gives others w) each is =
      let sums : (sum + (1 * w) % 2 ^ 32) % 2 ^ 32 ≡ ((sum + (1 * v) % 2 ^ 32) % 2 ^ 32 + k) % 2 ^ 32 =
      ap (λ n. (sum + (1 * n) % 2 ^ 32) % 2 ^ 32) is ∙ more_itself (2 ^ 32) k sum v in
      let rest : GivesMore k (goes_on back sum s false ((1 * v) % 2 ^ 32)) (goes_on back sum (over t s) false ((1 * w) % 2 ^ 32)) =
      subst (λ n. GivesMore k (goes_on back sum s false ((1 * v) % 2 ^ 32))
      (sum_value (map summand_of back) n (over t s))) (sym sums)
      (back_more back ((sum + (1 * v) % 2 ^ 32) % 2 ^ 32) each) in
      more_after k (loads ++ []) (others ++ []) (goes_on back sum s false ((1 * v) % 2 ^ 32)) (goes_on back sum (over t s) false ((1 * w) % 2 ^ 32)) rest
  name_more back sum (Fails loads f) (Fails others g) each is = is
  name_more back sum (Gives loads v) (Fails others g) each is = absurd is
  name_more back sum (Fails loads f) (Gives others w) each is = absurd is

  own_value : (n : Named) (own : Term) (z : Sight) → IsNameTerm n own → term_value own z ≡ with_value (factor_value (factor_of n) z) own_product
  own_value n own z alone = ap (λ (e : Eval). e z) (term_value-out own) ∙ ap (λ js. product_value (map multiplier_of js) 1 z) alone.only

  own_more : (n : Named) (own : Term) (back : List Term) (sum : ℕ) → IsNameTerm n own
      → GivesMore k (factor_value (factor_of n) s) (factor_value (factor_of n) (over t s)) → AllByRecursion Same back
      → GivesMore k (sum_value (map summand_of (own ∷ back)) sum s) (sum_value (map summand_of (own ∷ back)) sum (over t s))
  own_more n own back sum alone more each =
      subst (λ b. GivesMore k (with_value (term_value own s) (goes_on back sum s b))
      (with_value (term_value own (over t s)) (goes_on back sum (over t s) b))) (sym alone.plus)
      (subst (λ got. GivesMore k (with_value got (goes_on back sum s false))
      (with_value (term_value own (over t s)) (goes_on back sum (over t s) false))) (sym (own_value n own s alone))
      (subst (λ got. GivesMore k (with_value (with_value (factor_value (factor_of n) s) own_product)
      (goes_on back sum s false)) (with_value got (goes_on back sum (over t s) false)))
      (sym (own_value n own (over t s) alone))
      (name_more back sum (factor_value (factor_of n) s) (factor_value (factor_of n) (over t s)) each more)))

  -- a variable over words that have more there
  pub variable_more : (v : ℕ) → slice_index t (s.first + v) ≡ (slice_index s.store (s.first + v) + k) % 2 ^ 32
      → GivesMore k (factor_value (factor.Variable v) s) (factor_value (factor.Variable v) (over t s))
  variable_more v more =
      subst (λ got. GivesMore k got (factor_value (factor.Variable v) (over t s))) (sym (factor_value-Variable v s))
      (subst (GivesMore k (cell_value (s.first + v) s)) (sym (factor_value-Variable v (over t s))) more)

  -- so a field, or the same fault
  pub field_more : (file field pointer : ℕ) (p : Placed) → slice_get s.files file ≡ Some p
      → (pointer_fault s.chain file p (slice_index s.temps pointer) ≡ None
      → slice_index t (field_cell p (slice_index s.temps pointer) field)
      ≡ (slice_index s.store (field_cell p (slice_index s.temps pointer) field) + k) % 2 ^ 32)
      → GivesMore k (factor_value (factor.Field file field pointer) s) (factor_value (factor.Field file field pointer) (over t s))
  field_more file field pointer p there more =
      subst (λ got. GivesMore k got (factor_value (factor.Field file field pointer) (over t s))) (sym (factor_value-Field file field pointer s))
      (subst (GivesMore k (field_value (slice_get s.files file) file field number s)) (sym (factor_value-Field file field pointer (over t s)))
      (subst (λ found. GivesMore k (field_value found file field number s)
      (field_value found file field number (over t s))) (sym there)
      (by (pointer_fault s.chain file p number) refl)))
    where
      number : ℕ
      number = slice_index s.temps pointer

      by : (found : Option Fault) → pointer_fault s.chain file p number ≡ found
          → GivesMore k (load_or_fault found (field_cell p number field) s)
          (load_or_fault found (field_cell p number field) (over t s))
      by None sound = more sound
      by (Some f) sound = refl

  -- an addition, over words that are the same wherever else it looks
  pub addition_more : (n : Named) (e : Expr) (a : IsAdditionTo n e)
      → AllByRecursion (λ (e : Term). SameOf t s (named_in_term e)) a.before
      → AllByRecursion (λ (e : Term). SameOf t s (named_in_term e)) a.after
      → GivesMore k (factor_value (factor_of n) s) (factor_value (factor_of n) (over t s)) → GivesMore k (expr_value e s) (expr_value e (over t s))
  addition_more n e a front back more =
      let rest = λ (sum : ℕ). own_more n a.own a.after sum a.alone more (sames a.after back) in
      let whole = front_more a.before (a.own ∷ a.after) 0 (sames a.before front) rest in
      let shown = λ (u w : Eval). GivesMore k (u s) (w (over t s)) in
      subst (λ (u : Eval). shown u u) (sym (expr_value-out e))
      (subst (λ ts. GivesMore k (sum_value (map summand_of ts) 0 s) (sum_value (map summand_of ts) 0 (over t s)))
      (sym a.terms) whole)
    where
      sames : (ts : List Term) → AllByRecursion (λ (e : Term). SameOf t s (named_in_term e)) ts → AllByRecursion Same ts
      sames [] each = tt
      sames (e ∷ ts) each = (term_same t s e each.0, sames ts each.1)
