-- The code of expressions and of conditions.
--
-- An expression in register r takes this register and those above it. The first term of a sum and
-- the first factor of a product go straight into its register, and each further one joins what
-- stands there by way of the register above it: so a number or a variable that is a whole
-- expression is one instruction. In an exchange there is a first one, which is taken from nothing
-- and divides nothing. In a condition every relation is evaluated: a result so far stands in
-- register 0, and in a local of its own while a further relation is evaluated, since that may need
-- all registers.
use Rattle.std.specs.Prelude.{ℕ, ◌+◌, Bool, true, false, List, [], ◌∷◌, ◌++◌, map, slice_get}
use Rattle.std.specs.Prelude.{Option, Some, None}
use Rattle.machine_code.specs.declared.op.Op.{Op}
use Rattle.machine_code.specs.declared.op.Op.TheVariants.{Ldi, Ldt, Stt, Add, Sub, Mul, Div, Rem}
use Rattle.machine_code.specs.declared.op.Op.TheVariants.{Eq, Ne, Lt, Le, Gt, Ge, And, Or, Ldw, Ckp}
use Rattle.machine_code.specs.declared.op.Op.TheVariants.{Own, Ldx}
use Rattle.exchange_model.specs.declared.expr.Expr.{Expr, fold-Expr}
use Rattle.exchange_model.specs.declared.expr.Term.{Term, out-Term}
use Rattle.exchange_model.specs.declared.expr.Joined.{Joined}
use Rattle.exchange_model.specs.declared.expr.Factor.{Factor, fold-Factor}
use Rattle.exchange_model.specs.declared.expr.Factor.TheOpen.{Factor-F, Expr-F, Joined-F, Term-F}
use Rattle.exchange_model.specs.declared.expr.Factor.TheOpen.{Number, Variable, Temporary, Field}
use Rattle.exchange_model.specs.declared.expr.Factor.TheOpen.{Bracket, Reference}
use Rattle.exchange_model.specs.declared.expr.FactorOp.{FactorOp}
use Rattle.exchange_model.specs.declared.expr.FactorOp.TheVariants.{Times, Divide, Modulo}
use Rattle.exchange_model.specs.declared.expr.Cond.{Cond}
use Rattle.exchange_model.specs.declared.expr.Relation.{Relation}
use Rattle.exchange_model.specs.declared.expr.Rel.{Rel}
use Rattle.exchange_model.specs.declared.expr.Rel.TheVariants.{Equal, Unequal, Below, AtMost, Above}
use Rattle.exchange_model.specs.declared.expr.Rel.TheVariants.{AtLeast}
use Rattle.exchange_model.specs.Cells.{Placed, record_cells}

-- where stored words are: the cell of the block's first variable, and the files of the exchange
pub record Site : Type 0 where
  pub first : ℕ
  pub files : List Placed

-- code by the register that gets the value
abbrev pub Code : Type 0
Code = Site → ℕ → List Op

-- the code of a term, and whether it is taken from what stands before it
pub record TermCode : Type 0 where
  pub minus : Bool
  pub code : Code

-- the code of a factor, and how it is joined to what stands before it
pub record FactorCode : Type 0 where
  pub by : FactorOp
  pub code : Code

abbrev pub term_op : Bool → ℕ → ℕ → Op
term_op false r s = Add r s
term_op true r s = Sub r s

abbrev pub factor_op : FactorOp → ℕ → ℕ → Op
factor_op Times r s = Mul r s
factor_op Divide r s = Div r s
factor_op Modulo r s = Rem r s

abbrev pub rel_op : Rel → ℕ → ℕ → Op
rel_op Equal r s = Eq r s
rel_op Unequal r s = Ne r s
rel_op Below r s = Lt r s
rel_op AtMost r s = Le r s
rel_op Above r s = Gt r s
rel_op AtLeast r s = Ge r s

-- of a forlopp file the chain must have the record
abbrev pub own_code : Bool → ℕ → ℕ → List Op
own_code false file r = []
own_code true file r = Own r file ∷ []

-- what checks the pointer in a register to a record of a file
abbrev pub pointer_code : Placed → ℕ → ℕ → List Op
pointer_code p file r = Ckp r p.file.size ∷ own_code p.file.forlopp file r

-- a field of the record that a temporary names
abbrev pub field_code : Option Placed → ℕ → ℕ → ℕ → ℕ → List Op
field_code None file field pointer r = Ldi r 0 ∷ []
field_code (Some p) file field pointer r =
    Ldt r pointer ∷ (pointer_code p file r ++ Ldx r (p.first + field) (record_cells p.file) r ∷ [])

abbrev pub factor_layer : {T : Type 0} {J : Type 0} → Factor-F Code Code J T → Code
factor_layer (Number n) site r = Ldi r n ∷ []
factor_layer (Variable v) site r = Ldw r (site.first + v) ∷ []
factor_layer (Temporary t) site r = Ldt r t ∷ []
factor_layer (Field file field pointer) site r =
    field_code (slice_get site.files file) file field pointer r
factor_layer (Bracket e) site r = e site r
factor_layer (Reference b) site r = Ldi r (b + 1) ∷ []

-- these factors, joined to the product in the register
abbrev pub product_code : List FactorCode → Code
product_code [] site r = []
product_code (f ∷ rest) site r =
    f.code site (r + 1) ++ (factor_op f.by r (r + 1) ∷ product_code rest site r)

-- a factor with how it is joined, and a term
abbrev pub joined_layer : {E T : Type 0} → Joined-F Code E FactorCode T → FactorCode
joined_layer j = record { by = j.by; code = j.factor }

-- the product of these factors, of which there is a first one
abbrev pub whole_product : List FactorCode → Code
whole_product [] site r = []
whole_product (f ∷ rest) site r = f.code site r ++ product_code rest site r

abbrev pub term_layer : {F E : Type 0} → Term-F F E FactorCode TermCode → TermCode
term_layer t = record { minus = t.minus; code = whole_product t.factors }

-- these terms, added to the sum in the register or taken from it
abbrev pub sum_code : List TermCode → Code
sum_code [] site r = []
sum_code (t ∷ rest) site r =
    t.code site (r + 1) ++ (term_op t.minus r (r + 1) ∷ sum_code rest site r)

-- the sum of these terms, of which there is a first one
abbrev pub whole_sum : List TermCode → Code
whole_sum [] site r = []
whole_sum (t ∷ rest) site r = t.code site r ++ sum_code rest site r

abbrev pub expr_layer : {F J : Type 0} → Expr-F F Code J TermCode → Code
expr_layer e = whole_sum e.terms

-- the value of an expression goes into the register
unfoldable pub expr_code : Expr → Code
expr_code = fold-Expr Code Code FactorCode TermCode factor_layer expr_layer joined_layer term_layer

-- that of a factor
unfoldable pub factor_code : Factor → Code
factor_code = fold-Factor Code Code FactorCode TermCode factor_layer expr_layer joined_layer
    term_layer

abbrev pub joined_code : Joined → FactorCode
joined_code j = record { by = j.by; code = factor_code j.factor }

-- that of a term
unfoldable pub term_code : Term → Code
term_code t = whole_product (map joined_code (out-Term t).factors)

abbrev pub summand_code : Term → TermCode
summand_code t = record { minus = (out-Term t).minus; code = term_code t }

-- the locals for the results of OR and of AND so far
abbrev pub or_local : ℕ
or_local = 48

abbrev pub and_local : ℕ
and_local = 49

-- 1 into register 0 where the relation holds, else 0
abbrev pub relation_code : Relation → Site → List Op
relation_code r site =
    expr_code r.left site 0 ++ (expr_code r.right site 1 ++ rel_op r.rel 0 1 ∷ [])

-- these relations, joined to the result of AND so far, which stands in register 0
abbrev pub and_code : List Relation → Site → List Op
and_code [] site = []
and_code (r ∷ rest) site =
    Stt and_local 0 ∷ (relation_code r site ++ (Ldt 1 and_local ∷ And 0 1 ∷ and_code rest site))

-- 1 into register 0 where all these relations hold, else 0
abbrev pub all_code : List Relation → Site → List Op
all_code [] site = Ldi 0 1 ∷ []
all_code (r ∷ rest) site = relation_code r site ++ and_code rest site

-- these lists of relations, joined to the result of OR so far, which stands in register 0
abbrev pub or_code : List (List Relation) → Site → List Op
or_code [] site = []
or_code (rs ∷ rest) site =
    Stt or_local 0 ∷ (all_code rs site ++ (Ldt 1 or_local ∷ Or 0 1 ∷ or_code rest site))

-- 1 into register 0 where all relations of one of these lists hold, else 0
abbrev pub any_code : List (List Relation) → Site → List Op
any_code [] site = Ldi 0 0 ∷ []
any_code (rs ∷ rest) site = all_code rs site ++ or_code rest site

-- 1 into register 0 where the condition holds, else 0
abbrev pub cond_code : Cond → Site → List Op
cond_code c site = any_code c.any site
