-- The value of an expression, or the fault that came in its place, with the loads made on the way,
-- from left to right.
--
-- Numbers are modulo 2^32. A sum begins with 0 and a product with 1, so that the first term and the
-- first factor are no cases of their own. In a condition every relation is evaluated, and AND and
-- OR join the results afterwards. Past the last temporary, cell or file each look-up gives 0, so
-- that no definition needs a premise.
use Rattle.std.specs.Prelude.{ℕ, zero, suc, ◌+◌, ◌-◌, ◌*◌, ◌/◌, ◌%◌, ◌^◌, Bool, nat_lt, not, ◌&&◌}
use Rattle.std.specs.Prelude.{◌||◌, List, [], ◌∷◌, ◌++◌, map, slice_get, slice_index, Option, Some}
use Rattle.std.specs.Prelude.{None, Result, Ok, Err, if◌then◌else◌}
use Rattle.job_types.specs.declared.chain.Held.{Held}
use Rattle.job_types.specs.declared.fault.Fault.{Fault}
use Rattle.job_types.specs.declared.fault.Fault.TheVariants as fault
use Rattle.job_types.specs.declared.touch.Touch.{Touch}
use Rattle.job_types.specs.declared.touch.Touch.TheVariants.{Load}
use Rattle.exchange_model.specs.declared.expr.Expr.{Expr, fold-Expr}
use Rattle.exchange_model.specs.declared.expr.Term.{Term, out-Term}
use Rattle.exchange_model.specs.declared.expr.Joined.{Joined}
use Rattle.exchange_model.specs.declared.expr.Factor.{Factor, fold-Factor}
use Rattle.exchange_model.specs.declared.expr.Factor.TheOpen.{Factor-F, Expr-F, Joined-F, Term-F}
use Rattle.exchange_model.specs.declared.expr.Factor.TheOpen.{Number, Variable, Temporary, Field}
use Rattle.exchange_model.specs.declared.expr.Factor.TheOpen.{Bracket, Reference}
use Rattle.exchange_model.specs.declared.expr.FactorOp.{FactorOp}
use Rattle.exchange_model.specs.declared.expr.FactorOp.TheVariants.{Times, Divide, Modulo}
use Rattle.exchange_model.specs.declared.expr.Cond.{Cond}
use Rattle.exchange_model.specs.declared.expr.Relation.{Relation}
use Rattle.exchange_model.specs.declared.stmt.Holder.{Holder}
use Rattle.exchange_model.specs.declared.stmt.Holder.TheVariants as holder
use Rattle.exchange_model.specs.Cells.{Placed, field_cell}
pub use Rattle.exchange_model.specs.Relations.{stands}
use Rattle.job_types.specs.Chain.{holds}
use Rattle.job_types.specs.Truth.{is_set, one_if}

-- a value, or the fault that came in its place, with the loads made
pub data Got : Type 0 where
  Gives : (loads : List Touch) (value : ℕ) → Got
  Fails : (loads : List Touch) (fault : Fault) → Got

-- what an expression sees: the temporaries, the stored words, the records held, the cell of its
-- block's first variable, and the files of the exchange
pub record Sight : Type 0 where
  pub temps : List ℕ
  pub store : List ℕ
  pub chain : List Held
  pub first : ℕ
  pub files : List Placed

-- the loads made before come first
abbrev pub after_loads : List Touch → Got → Got
after_loads before (Gives loads v) = Gives (before ++ loads) v
after_loads before (Fails loads f) = Fails (before ++ loads) f

-- goes on with the value
abbrev pub with_value : Got → (ℕ → Got) → Got
with_value (Gives loads v) go = after_loads loads (go v)
with_value (Fails loads f) go = Fails loads f

-- the value or the fault, without the loads
abbrev pub answer_of : Got → Result ℕ Fault
answer_of (Gives loads v) = Ok v
answer_of (Fails loads f) = Err f

-- the load of a cell
abbrev pub load_of : List ℕ → ℕ → Touch
load_of store cell = Load cell (slice_index store cell)

-- the value of a cell, which is loaded
abbrev pub cell_value : ℕ → Sight → Got
cell_value cell s = Gives (load_of s.store cell ∷ []) (slice_index s.store cell)

-- a job may use a record of a forlopp file where its chain has it, and any record of another file
abbrev pub may_use : List Held → ℕ → Placed → ℕ → Bool
may_use chain file p number = not p.file.forlopp || holds chain file number

-- what is wrong with a pointer to a record
abbrev pub pointer_fault : List Held → ℕ → Placed → ℕ → Option Fault
pointer_fault chain file p number =
    (if nat_lt number p.file.size then (if may_use chain file p number then None
    else Some fault.NotOwn) else Some fault.Pointer)

-- a field of a record is loaded, where nothing is wrong with the pointer
abbrev pub load_or_fault : Option Fault → ℕ → Sight → Got
load_or_fault None cell s = cell_value cell s
load_or_fault (Some f) cell s = Fails [] f

abbrev pub field_value : Option Placed → ℕ → ℕ → ℕ → Sight → Got
field_value None file field number s = Gives [] 0
field_value (Some p) file field number s =
    load_or_fault (pointer_fault s.chain file p number) (field_cell p number field) s

-- an expression as what it gives
abbrev pub Eval : Type 0
Eval = Sight → Got

-- a term, and whether it is taken from what stands before it
pub record Summand : Type 0 where
  pub minus : Bool
  pub value : Eval

-- a factor, and how it is joined to what stands before it
pub record Multiplier : Type 0 where
  pub by : FactorOp
  pub value : Eval

abbrev pub factor_layer : {T : Type 0} {J : Type 0} → Factor-F Eval Eval J T → Eval
factor_layer (Number n) s = Gives [] n
factor_layer (Variable v) s = cell_value (s.first + v) s
factor_layer (Temporary t) s = Gives [] (slice_index s.temps t)
factor_layer (Field file field pointer) s =
    field_value (slice_get s.files file) file field (slice_index s.temps pointer) s
factor_layer (Bracket e) s = e s
factor_layer (Reference b) s = Gives [] (b + 1)

-- a product so far, joined with a factor
abbrev pub joined : FactorOp → ℕ → ℕ → Got
joined Times product v = Gives [] ((product * v) % 2 ^ 32)
joined Divide product zero = Fails [] fault.Divide
joined Divide product (suc v) = Gives [] (product / suc v)
joined Modulo product zero = Fails [] fault.Divide
joined Modulo product (suc v) = Gives [] (product % suc v)

-- these factors, joined to a product
abbrev pub product_value : List Multiplier → ℕ → Eval
product_value [] product s = Gives [] product
product_value (m ∷ rest) product s =
    with_value (m.value s) (λ v. with_value (joined m.by product v) (λ p. product_value rest p s))

-- a sum so far, with a term added to it or taken from it
abbrev pub summed : Bool → ℕ → ℕ → ℕ
summed minus sum v = (if minus then (sum + 2 ^ 32 - v) % 2 ^ 32 else (sum + v) % 2 ^ 32)

-- these terms, added to a sum or taken from it
abbrev pub sum_value : List Summand → ℕ → Eval
sum_value [] sum s = Gives [] sum
sum_value (t ∷ rest) sum s = with_value (t.value s) (λ v. sum_value rest (summed t.minus sum v) s)

-- a layer of an expression, of a factor in a term and of a term, once each of its parts is what it
-- gives
abbrev pub expr_layer : {F E J : Type 0} → Expr-F F E J Summand → Eval
expr_layer e = sum_value e.terms 0

abbrev pub multiplier_layer : {E J T : Type 0} → Joined-F Eval E J T → Multiplier
multiplier_layer j = record { by = j.by; value = j.factor }

abbrev pub summand_layer : {F E T : Type 0} → Term-F F E Multiplier T → Summand
summand_layer t = record { minus = t.minus; value = product_value t.factors 1 }

-- the value of an expression
unfoldable pub expr_value : Expr → Eval
expr_value = fold-Expr Eval Eval Multiplier Summand factor_layer expr_layer multiplier_layer
    summand_layer

-- the value of a factor, and what a factor in a term and a term give
unfoldable pub factor_value : Factor → Eval
factor_value = fold-Factor Eval Eval Multiplier Summand factor_layer expr_layer multiplier_layer
    summand_layer

abbrev pub multiplier_of : Joined → Multiplier
multiplier_of j = record { by = j.by; value = factor_value j.factor }

unfoldable pub term_value : Term → Eval
term_value t = product_value (map multiplier_of (out-Term t).factors) 1

abbrev pub summand_of : Term → Summand
summand_of t = record { minus = (out-Term t).minus; value = term_value t }

-- the value of a holder
abbrev pub holder_value : Holder → Eval
holder_value (holder.Temporary t) s = Gives [] (slice_index s.temps t)
holder_value (holder.Variable v) s = cell_value (s.first + v) s

-- the values of these expressions, after those found before, or the first fault
abbrev pub and_then : Result ℕ Fault → (ℕ → Result (List ℕ) Fault) → Result (List ℕ) Fault
and_then (Ok v) go = go v
and_then (Err f) go = Err f

abbrev pub values_of : List Expr → List ℕ → Sight → Result (List ℕ) Fault
values_of [] vs s = Ok vs
values_of (e ∷ es) vs s = and_then (answer_of (expr_value e s)) (λ v. values_of es (vs ++ v ∷ []) s)

-- 1 where the relation holds, else 0
abbrev pub relation_value : Relation → Eval
relation_value r s = with_value (expr_value r.left s)
    (λ a. with_value (expr_value r.right s) (λ b. Gives [] (one_if (stands r.rel a b))))

-- 1 where it was so before and all these relations hold, each of which is evaluated
abbrev pub all_value : List Relation → ℕ → Eval
all_value [] before s = Gives [] before
all_value (r ∷ rest) before s =
    with_value (relation_value r s) (λ v. all_value rest (one_if (is_set before && is_set v)) s)

-- 1 where it was so before or all relations of one of these lists hold, each of which is evaluated
abbrev pub any_value : List (List Relation) → ℕ → Eval
any_value [] before s = Gives [] before
any_value (rs ∷ rest) before s =
    with_value (all_value rs 1 s) (λ v. any_value rest (one_if (is_set before || is_set v)) s)

-- 1 where the condition holds, else 0
abbrev pub cond_value : Cond → Eval
cond_value c s = any_value c.any 0 s
