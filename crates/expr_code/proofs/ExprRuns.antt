-- The code of an expression leaves its value, or comes to its fault.
use Rattle.std.proofs.Common.{◌≡◌, ℕ, zero, suc, ◌+◌, ◌*◌, ◌^◌, ◌<◌, Bool, true, false, List, []}
use Rattle.std.proofs.Common.{◌∷◌, ◌++◌, length, map, Option, Some, None, refl, sym, ap, ◌∙◌, subst}
use Rattle.std.proofs.Common.{arith, length-append, slice_get, if◌then◌else◌}
use Rattle.std.proofs.Math.Nat.{mul_comm}
use Rattle.std.specs.Prelude.{slice_index, nat_lt, not, ◌||◌, ◌/◌, ◌%◌}
use Rattle.std.specs.List.{AllByRecursion}
use Rattle.job_types.specs.declared.fault.Fault.TheVariants as fault
use Rattle.machine_code.specs.declared.op.Op.{Op}
use Rattle.machine_code.specs.declared.op.Op.TheVariants.{Ldi, Ldt, Ldw, Ckp, Own, Ldx}
use Rattle.exchange_model.specs.declared.expr.Expr.{Expr, out-Expr}
use Rattle.exchange_model.specs.declared.expr.Term.{Term, out-Term}
use Rattle.exchange_model.specs.declared.expr.Joined.{Joined}
use Rattle.exchange_model.specs.declared.expr.FactorOp.{FactorOp}
use Rattle.exchange_model.specs.declared.expr.FactorOp.TheVariants.{Times, Divide, Modulo}
use Rattle.exchange_model.specs.declared.expr.Factor.{Factor}
use Rattle.exchange_model.specs.declared.expr.Factor.TheVariants.{Number, Variable, Temporary}
use Rattle.exchange_model.specs.declared.expr.Factor.TheVariants.{Field, Reference}
use Rattle.exchange_model.specs.Cells.{Placed, field_cell, record_cells}
use Rattle.exchange_model.specs.Inside.{most, bracket_depth}
use Rattle.exchange_model.specs.Fits.{Scope, ExprFits, TermsStand, FactorsStand}
use Rattle.exchange_model.specs.PartFits.{TermFits, FactorOwnFits}
use Rattle.exchange_model.proofs.Layers.{expr_fits-out, term_fits-out}
use Rattle.exchange_model.specs.PartCounts.{term_depth, factor_own_depth}
use Rattle.exchange_model.proofs.Counted.{bracket_depth-out}
use Rattle.job_types.specs.Own.{seen}
use Rattle.source_meaning.specs.Value.{Got, Gives, Fails, Eval, Sight, with_value, load_of}
use Rattle.source_meaning.specs.Value.{cell_value, field_value, load_or_fault, may_use, joined}
use Rattle.source_meaning.specs.Value.{summed, sum_value, product_value, summand_of, multiplier_of}
use Rattle.source_meaning.specs.Value.{expr_value, term_value, factor_value}
use Rattle.job_types.specs.Chain.{holds}
use Rattle.source_meaning.proofs.Layers.{expr_value-out, term_value-out, factor_value-Number}
use Rattle.source_meaning.proofs.Layers.{factor_value-Variable, factor_value-Temporary}
use Rattle.source_meaning.proofs.Layers.{factor_value-Field, factor_value-Bracket}
use Rattle.source_meaning.proofs.Layers.{factor_value-Reference}
use Rattle.machine_meaning.specs.Machine.{Machine, HasRoom, machine_step, reg, sets, checks, fails}
use Rattle.machine_meaning.specs.Machine.{divides, made_one}
use Rattle.expr_code.specs.Code.{Code, term_op, factor_op, own_code, field_code, sum_code}
use Rattle.expr_code.specs.Code.{product_code, whole_sum, whole_product, expr_code, term_code}
use Rattle.expr_code.specs.Code.{factor_code, joined_code, summand_code}
use Rattle.expr_code.specs.Runs.{HasOp, HasAt, site_of, Agrees, Computes}
use Rattle.expr_code.specs.Sites.{IsLimited}
use Rattle.expr_code.proofs.Each.{all_fit}
use Rattle.expr_code.proofs.Places.{has_front, has_back}
use Rattle.expr_code.proofs.Runs.{agrees_on, after_none, bind_runs, then_runs, check_runs, nothing}
use Rattle.expr_code.proofs.Runs.{StandsAt, op_sets, op_sets_plain, op_fails, op_checks}
use Rattle.source_meaning.proofs.Parts.{NodeParts, every_expr}
use Rattle.expr_code.proofs.Opened.{expr_code-out, term_code-out, factor_code-Number}
use Rattle.expr_code.proofs.Opened.{factor_code-Variable, factor_code-Temporary, factor_code-Field}
use Rattle.expr_code.proofs.Opened.{factor_code-Bracket, factor_code-Reference}
use Rattle.expr_code.proofs.Fitted.{number_fits, temporary_fits, field_fits, bracket_fits}
use Rattle.expr_code.proofs.Fitted.{reference_fits, factors_fit, term_is_deep, bracket_is_deep}

-- ## What the instructions do

summed_small : (minus : Bool) (x y : ℕ) → summed minus x y < 2 ^ 32
summed_small false x y = omega arith
summed_small true x y = omega arith

term_act : (minus : Bool) (r s : ℕ) (m : Machine)
    → machine_step (term_op minus r s) m ≡ record
    { run = sets r (summed minus (reg m.run r) (reg m.run s)) (made_one m.run); world = m.world }
term_act false r s m = refl
term_act true r s m = refl

term_room : (minus : Bool) (r q : ℕ) (m : Machine) → HasRoom (term_op minus r q) m.run
term_room false r q m = tt
term_room true r q m = tt

-- the value goes into the register, or the fault ends the job
abbrev sets_or_fails : ℕ → Got → Machine → Machine
sets_or_fails r (Gives loads v) m = record { run = sets r v (made_one m.run); world = m.world }
sets_or_fails r (Fails loads f) m = record { run = fails f (made_one m.run); world = m.world }

divide_act : (x y r : ℕ) (m : Machine) → record { run = divides r y (x / y) (made_one m.run); world = m.world } ≡ sets_or_fails r (joined Divide x y) m
divide_act x zero r m = refl
divide_act x (suc y) r m = refl

modulo_act : (x y r : ℕ) (m : Machine) → record { run = divides r y (x % y) (made_one m.run); world = m.world } ≡ sets_or_fails r (joined Modulo x y) m
modulo_act x zero r m = refl
modulo_act x (suc y) r m = refl

factor_act : (by : FactorOp) (r s : ℕ) (m : Machine) → machine_step (factor_op by r s) m ≡ sets_or_fails r (joined by (reg m.run r) (reg m.run s)) m
factor_act Times r s m = refl
factor_act Divide r s m = divide_act (reg m.run r) (reg m.run s) r m
factor_act Modulo r s m = modulo_act (reg m.run r) (reg m.run s) r m

factor_room : (by : FactorOp) (r q : ℕ) (m : Machine) → HasRoom (factor_op by r q) m.run
factor_room Times r q m = tt
factor_room Divide r q m = tt
factor_room Modulo r q m = tt

-- a product joined with a factor
joined_runs : (code : List Op) (by : FactorOp) (x y : ℕ) (m : Machine) (op : Op) (pc r : ℕ) → StandsAt code m pc op
    → x < 2 ^ 32 → r < 16 → machine_step op m ≡ sets_or_fails r (joined by x y) m
    → Computes code m (pc + 1) r 50 (joined by x y)
joined_runs code Times x y m op pc r at small lt e = op_sets_plain code m op pc r _ at (omega arith) lt e
joined_runs code Divide x zero m op pc r at small lt e = op_fails code m op pc (pc + 1) r 50 fault.Divide at e
joined_runs code Divide x (suc y) m op pc r at small lt e = op_sets_plain code m op pc r _ at (omega arith) lt e
joined_runs code Modulo x zero m op pc r at small lt e = op_fails code m op pc (pc + 1) r 50 fault.Divide at e
joined_runs code Modulo x (suc y) m op pc r at small lt e = op_sets_plain code m op pc r _ at (omega arith) lt e

-- the first term of a sum is its value, and the first factor that of a product
first_summed : (minus : Bool) (v : ℕ) → minus ≡ false → v < 2 ^ 32 → summed minus 0 v ≡ v
first_summed minus v plain small =
    let same : (0 + v) % 2 ^ 32 ≡ v = omega arith in
    ap (λ b. summed b 0 v) plain ∙ same

first_joined : (by : FactorOp) (v : ℕ) (go : ℕ → Got) → by ≡ Times → v < 2 ^ 32 → with_value (joined by 1 v) go ≡ go v
first_joined by v go times small =
    let same : (1 * v) % 2 ^ 32 ≡ v = omega arith in
    ap (λ b. with_value (joined b 1 v) go) times ∙ after_none (go ((1 * v) % 2 ^ 32)) ∙ ap go same

-- an agreeing machine that stands at an instruction
pub stands : {code : List Op} {s : Sight} {m : Machine} {pc : ℕ} {op : Op} → Agrees m s → m.run.pc ≡ pc
    → HasOp code pc op → HasRoom op m.run → StandsAt code m pc op
stands a at has room = record { at = at; over = a.runs; registers = a.registers; has = has; room = room }

module _ (code : List Op) (s : Sight) where
  -- wherever it stands, code computes a value by its register and so many above it
  abbrev pub RunsWithin : ℕ → Code → Got → Type 0
  RunsWithin k c got = (m : Machine) (pc r : ℕ) → Agrees m s → m.run.pc ≡ pc → r + k < 16
      → HasAt code pc (c (site_of s) r) → Computes code m (pc + length (c (site_of s) r)) r 50 got

  abbrev TermRuns : Term → Type 0
  TermRuns t = RunsWithin (2 * term_depth t + 1) (term_code t) (term_value t s)

  abbrev FactorRuns : Factor → Type 0
  FactorRuns f = RunsWithin (2 * factor_own_depth f) (factor_code f) (factor_value f s)

  runs_as : {j k : ℕ} {c d : Code} {u v : Got} → j ≡ k → c ≡ d → u ≡ v → RunsWithin k d v → RunsWithin j c u
  runs_as {k = k} {c = c} {d = d} {u = u} {v = v} ek ec ev h =
      subst (λ z. RunsWithin z c u) (sym ek) (subst (λ z. RunsWithin k z u) (sym ec) (subst (λ z. RunsWithin k d z) (sym ev) h))

  -- ## Sums and products

  -- the terms, from a sum on
  sum_runs : (ts : List Term) (sum : ℕ) (m : Machine) (pc end r : ℕ) → AllByRecursion TermRuns ts → Agrees m s
      → m.run.pc ≡ pc → reg m.run r ≡ sum → sum < 2 ^ 32 → r + (2 * most (map term_depth ts) + 2) < 16
      → HasAt code pc (sum_code (map summand_code ts) (site_of s) r)
      → end ≡ pc + length (sum_code (map summand_code ts) (site_of s) r)
      → Computes code m end r 50 (sum_value (map summand_of ts) sum s)
  sum_runs [] sum m pc end r all a at is small lt has e = nothing code m end r sum (omega arith) a.runs is small
  sum_runs (t ∷ ts) sum m pc end r all a at is small lt has e =
      let c = term_code t (site_of s) (r + 1) in
      let minus = (out-Term t).minus in
      let op = term_op minus r (r + 1) in
      let h = has_back code pc c _ has in
      bind_runs code (λ v. sum_value (map summand_of ts) (summed minus sum v) s) (omega arith) (omega arith)
      (all.0 m pc (r + 1) a at (omega arith) (has_front code pc c _ has)) (λ n x v q is' small'.
      let same : machine_step op n ≡ record { run = sets r (summed minus sum v) (made_one n.run); world = n.world } =
      term_act minus r (r + 1) n
      ∙ ap (λ y. record { run = sets r (summed minus y (reg n.run (r + 1))) (made_one n.run); world = n.world }) (q.low r (omega arith) ∙ is)
      ∙ ap (λ y. record { run = sets r (summed minus sum y) (made_one n.run); world = n.world }) is' in
      let b = agrees_on (omega arith) q a in
      then_runs code (omega arith) (omega arith)
      (op_sets_plain code n op (pc + length c) r _ (stands b q.at h.0 (term_room minus r (r + 1) n))
      (summed_small minus sum v) (omega arith) same) (λ n2 q2 is2.
      sum_runs ts _ n2 (pc + length c + 1) end r all.1 (agrees_on (omega arith) q2 b) q2.at is2
      (summed_small minus sum v) (omega arith) h.1
      (omega (arith, length-append c (op ∷ sum_code (map summand_code ts) (site_of s) r)))))

  -- the factors, from a product on
  product_runs : (js : List Joined) (product : ℕ) (m : Machine) (pc end r : ℕ)
      → AllByRecursion (λ (j : Joined). FactorRuns j.factor) js → Agrees m s → m.run.pc ≡ pc → reg m.run r ≡ product
      → product < 2 ^ 32 → r + (2 * most (map (λ (j : Joined). factor_own_depth j.factor) js) + 1) < 16
      → HasAt code pc (product_code (map joined_code js) (site_of s) r)
      → end ≡ pc + length (product_code (map joined_code js) (site_of s) r)
      → Computes code m end r 50 (product_value (map multiplier_of js) product s)
  product_runs [] product m pc end r all a at is small lt has e = nothing code m end r product (omega arith) a.runs is small
  product_runs (j ∷ js) product m pc end r all a at is small lt has e =
      let c = factor_code j.factor (site_of s) (r + 1) in
      let op = factor_op j.by r (r + 1) in
      let h = has_back code pc c _ has in
      bind_runs code (λ v. with_value (joined j.by product v) (λ p. product_value (map multiplier_of js) p s))
      (omega arith) (omega arith) (all.0 m pc (r + 1) a at (omega arith) (has_front code pc c _ has))
      (λ n x v q is' small'.
      let same : machine_step op n ≡ sets_or_fails r (joined j.by product v) n =
      factor_act j.by r (r + 1) n
      ∙ ap (λ y. sets_or_fails r (joined j.by y (reg n.run (r + 1))) n) (q.low r (omega arith) ∙ is)
      ∙ ap (λ y. sets_or_fails r (joined j.by product y) n) is' in
      let b = agrees_on (omega arith) q a in
      bind_runs code (λ p. product_value (map multiplier_of js) p s) (omega arith) (omega arith)
      (joined_runs code j.by product v n op (pc + length c) r (stands b q.at h.0 (factor_room j.by r (r + 1) n))
      small (omega arith) same) (λ n2 x2 p q2 is2 small2.
      product_runs js p n2 (pc + length c + 1) end r all.1 (agrees_on (omega arith) q2 b) q2.at is2 small2 (omega arith)
      h.1 (omega (arith, length-append c (op ∷ product_code (map joined_code js) (site_of s) r)))))

  -- a product and a sum, whose first part is no case of its own in the value
  factors_run : (js : List Joined) (m : Machine) (pc r : ℕ) → FactorsStand js
      → AllByRecursion (λ (j : Joined). FactorRuns j.factor) js → Agrees m s → m.run.pc ≡ pc
      → r + (2 * most (map (λ (j : Joined). factor_own_depth j.factor) js) + 1) < 16
      → HasAt code pc (whole_product (map joined_code js) (site_of s) r)
      → Computes code m (pc + length (whole_product (map joined_code js) (site_of s) r)) r 50
      (product_value (map multiplier_of js) 1 s)
  factors_run [] m pc r stand all a at lt has = absurd stand
  factors_run (j ∷ js) m pc r stand all a at lt has =
      let c = factor_code j.factor (site_of s) r in
      let rest = product_code (map joined_code js) (site_of s) r in
      let end = pc + length (c ++ rest) in
      let more : ℕ → Got = λ p. product_value (map multiplier_of js) p s in
      bind_runs code (λ v. with_value (joined j.by 1 v) more) (omega arith) (omega arith)
      (all.0 m pc r a at (omega arith) (has_front code pc c rest has)) (λ n x v q is small.
      subst (Computes code n end r 50) (sym (first_joined j.by v more stand small))
      (product_runs js v n (pc + length c) end r all.1 (agrees_on (omega arith) q a) q.at is small (omega arith)
      (has_back code pc c rest has) (omega (arith, length-append c rest))))

  terms_run : (ts : List Term) (m : Machine) (pc r : ℕ) → TermsStand ts → AllByRecursion TermRuns ts → Agrees m s
      → m.run.pc ≡ pc → r + (2 * most (map term_depth ts) + 2) < 16
      → HasAt code pc (whole_sum (map summand_code ts) (site_of s) r)
      → Computes code m (pc + length (whole_sum (map summand_code ts) (site_of s) r)) r 50
      (sum_value (map summand_of ts) 0 s)
  terms_run [] m pc r stand all a at lt has = absurd stand
  terms_run (t ∷ ts) m pc r stand all a at lt has =
      let c = term_code t (site_of s) r in
      let rest = sum_code (map summand_code ts) (site_of s) r in
      let end = pc + length (c ++ rest) in
      let minus = (out-Term t).minus in
      bind_runs code (λ v. sum_value (map summand_of ts) (summed minus 0 v) s) (omega arith) (omega arith)
      (all.0 m pc r a at (omega arith) (has_front code pc c rest has)) (λ n x v q is small.
      subst (λ sum. Computes code n end r 50 (sum_value (map summand_of ts) sum s)) (sym (first_summed minus v stand small))
      (sum_runs ts v n (pc + length c) end r all.1 (agrees_on (omega arith) q a) q.at is small (omega arith)
      (has_back code pc c rest has) (omega (arith, length-append c rest))))

  term_layer_runs : (t : Term) → FactorsStand (out-Term t).factors → AllByRecursion (λ (j : Joined). FactorRuns j.factor) (out-Term t).factors → TermRuns t
  term_layer_runs t stand all =
      runs_as (ap (λ d. 2 * d + 1) (term_is_deep t)) (term_code-out t) (ap (λ (v : Eval). v s) (term_value-out t)) (λ m pc r a at lt has.
      factors_run (out-Term t).factors m pc r stand all a at lt has)

  expr_layer_runs : (e : Expr) → TermsStand (out-Expr e).terms → AllByRecursion TermRuns (out-Expr e).terms
      → RunsWithin (2 * bracket_depth e + 2) (expr_code e) (expr_value e s)
  expr_layer_runs e stand all =
      runs_as (ap (λ d. 2 * d + 2) (bracket_depth-out e)) (expr_code-out e) (ap (λ (v : Eval). v s) (expr_value-out e)) (λ m pc r a at lt has.
      terms_run (out-Expr e).terms m pc r stand all a at lt has)

  -- ## Factors

  number_runs : (n : ℕ) → n < 2 ^ 32 → RunsWithin 0 (λ site r. Ldi r n ∷ []) (Gives [] n)
  number_runs n small m pc r a at lt has = op_sets_plain code m (Ldi r n) pc r n (stands a at has.0 tt) small (omega arith) refl

  pub variable_runs : (v : ℕ) → RunsWithin 0 (λ site r. Ldw r (site.first + v) ∷ []) (cell_value (s.first + v) s)
  variable_runs v m pc r a at lt has =
      let cell = s.first + v in
      op_sets code m (Ldw r cell) pc r (slice_index s.store cell) (load_of s.store cell ∷ [])
      (seen (load_of s.store cell ∷ []) m.world) (stands a at has.0 tt) (a.small_store cell) (omega arith)
      (ap (λ l. record { run = sets r (slice_index l cell) (made_one m.run); world = seen (load_of l cell ∷ []) m.world }) a.store) refl

  pub temporary_runs : (t : ℕ) → t < 24 → RunsWithin 0 (λ site r. Ldt r t ∷ []) (Gives [] (slice_index s.temps t))
  temporary_runs t small m pc r a at lt has =
      op_sets_plain code m (Ldt r t) pc r (slice_index s.temps t) (stands a at has.0 tt) (a.small_temps t) (omega arith)
      (ap (λ v. record { run = sets r v (made_one m.run); world = m.world }) (a.temps t small))

  -- the record is the job's own
  own_runs : (forlopp : Bool) (file number : ℕ) (m : Machine) (pc end r : ℕ) → Agrees m s → m.run.pc ≡ pc
      → reg m.run r ≡ number → number < 2 ^ 32 → r < 16 → HasAt code pc (own_code forlopp file r)
      → end ≡ pc + length (own_code forlopp file r)
      → Computes code m end r 50 (if not forlopp || holds s.chain file number then Gives [] number
      else Fails [] fault.NotOwn)
  own_runs false file number m pc end r a at is small lt has e = nothing code m end r number (omega arith) a.runs is small
  own_runs true file number m pc end r a at is small lt has e =
      subst (λ n. Computes code m n r 50 (if holds s.chain file number then Gives [] number else Fails [] fault.NotOwn)) (sym e)
      (op_checks code (holds s.chain file number) m (Own r file) pc r number fault.NotOwn (stands a at has.0 tt) is small
      (ap (λ k. record { run = checks (holds m.run.own.chain file k) fault.NotOwn (made_one m.run); world = m.world }) is
      ∙ ap (λ l. record { run = checks (holds l file number) fault.NotOwn (made_one m.run); world = m.world }) a.chain))

  -- a pointer is looked at before the record, and the record before the field
  field_got : (below mine : Bool) (cell : ℕ) → (if below
      then (if mine then cell_value cell s else Fails [] fault.NotOwn) else Fails [] fault.Pointer)
      ≡ load_or_fault (if below then (if mine then None else Some fault.NotOwn) else Some fault.Pointer) cell s
  field_got true true cell = refl
  field_got true false cell = refl
  field_got false mine cell = refl

  load_runs : (p : Placed) (field number : ℕ) (m : Machine) (pc r : ℕ) → Agrees m s → m.run.pc ≡ pc
      → reg m.run r ≡ number → r < 16 → HasAt code pc (Ldx r (p.first + field) (record_cells p.file) r ∷ [])
      → Computes code m (pc + 1) r 50 (cell_value (field_cell p number field) s)
  load_runs p field number m pc r a at is lt has =
      let cell = field_cell p number field in
      let w : p.first + field + record_cells p.file * number ≡ cell = omega (arith, mul_comm (record_cells p.file) number) in
      let w' : p.first + field + record_cells p.file * reg m.run r ≡ cell = ap (λ k. p.first + field + record_cells p.file * k) is ∙ w in
      op_sets code m (Ldx r (p.first + field) (record_cells p.file) r) pc r (slice_index s.store cell)
      (load_of s.store cell ∷ []) (seen (load_of s.store cell ∷ []) m.world) (stands a at has.0 tt)
      (a.small_store cell) lt
      (ap (λ k. record { run = sets r (slice_index m.world.store k) (made_one m.run); world = seen (load_of m.world.store k ∷ []) m.world }) w'
      ∙ ap (λ l. record { run = sets r (slice_index l cell) (made_one m.run); world = seen (load_of l cell ∷ []) m.world }) a.store) refl

  field_runs : (o : Option Placed) (file field pointer : ℕ) → pointer < 24
      → RunsWithin 0 (λ site r. field_code o file field pointer r)
      (field_value o file field (slice_index s.temps pointer) s)
  field_runs None file field pointer small m pc r a at lt has = op_sets_plain code m (Ldi r 0) pc r 0 (stands a at has.0 tt) (omega arith) (omega arith) refl
  field_runs (Some p) file field pointer small m pc r a at lt has =
      let number = slice_index s.temps pointer in
      let own = own_code p.file.forlopp file r in
      let mine = may_use s.chain file p number in
      let below = nat_lt number p.file.size in
      let cell = field_cell p number field in
      let last = Ldx r (p.first + field) (record_cells p.file) r ∷ [] in
      let end = pc + length (field_code (Some p) file field pointer r) in
      subst (Computes code m end r 50) (field_got below mine cell)
      (then_runs code (omega arith) (omega arith) (temporary_runs pointer small m pc r a at lt (has.0, tt)) (λ n q is.
      let b = agrees_on (omega arith) q a in
      check_runs code below fault.Pointer number (if mine then cell_value cell s else Fails [] fault.NotOwn) (omega arith) (omega arith)
      (op_checks code below n (Ckp r p.file.size) (pc + 1) r number fault.Pointer (stands b q.at has.1.0 tt) is (a.small_temps pointer)
      (ap (λ k. record { run = checks (nat_lt k p.file.size) fault.Pointer (made_one n.run); world = n.world }) is)) (λ n2 q2 is2.
      let h : HasAt code (pc + 1 + 1) (own ++ last) = has.1.1 in
      let b2 = agrees_on (omega arith) q2 b in
      check_runs code mine fault.NotOwn number (cell_value cell s) (omega arith) (omega arith)
      (own_runs p.file.forlopp file number n2 (pc + 1 + 1) (pc + 1 + 1 + length own) r b2 q2.at is2
      (a.small_temps pointer) (omega arith) (has_front code (pc + 1 + 1) own last h) refl) (λ n3 q3 is3.
      let e : pc + 1 + 1 + length own + 1 ≡ end = omega (arith, length-append own last) in
      subst (λ k. Computes code n3 k r 50 (cell_value cell s)) e
      (load_runs p field number n3 (pc + 1 + 1 + length own) r (agrees_on (omega arith) q3 b2) q3.at is3
      (omega arith) (has_back code (pc + 1 + 1) own last h))))))

  -- a factor with no brackets takes its own register alone
  leaf : (f : Factor) {c : Code} {got : Got} → factor_code f ≡ c → factor_value f s ≡ got → RunsWithin 0 c got → FactorRuns f
  leaf f ec ev h m pc r a at lt has = runs_as {j = 0} refl ec ev h m pc r a at (omega arith) has

  -- ## Expressions

  -- those of a block within its limits
  module _ (scope : Scope) (few : IsLimited scope) where
    expr_steps : NodeParts (λ e. ExprFits scope e → RunsWithin (2 * bracket_depth e + 2) (expr_code e) (expr_value e s))
        (λ t. TermFits scope t → TermRuns t) (λ f. FactorOwnFits scope f → FactorRuns f)
    expr_steps = record {
      expr = λ e all fits. expr_layer_runs e (expr_fits-out scope e fits).0
          (all_fit (TermFits scope) TermRuns (out-Expr e).terms all (expr_fits-out scope e fits).1);
      term = λ t all fits. term_layer_runs t (term_fits-out scope t fits).0
          (all_fit (λ (j : Joined). FactorOwnFits scope j.factor) (λ (j : Joined). FactorRuns j.factor)
          (out-Term t).factors all (factors_fit scope t fits));
      number = λ n fits. leaf (Number n) (factor_code-Number n) (factor_value-Number n s) (number_runs n (number_fits scope n fits));
      variable = λ v fits. leaf (Variable v) (factor_code-Variable v) (factor_value-Variable v s) (variable_runs v);
      temporary = λ t fits.
          let h = temporary_fits scope t fits in
          leaf (Temporary t) (factor_code-Temporary t) (factor_value-Temporary t s) (temporary_runs t (omega (arith, h, few.temporaries)));
      field = λ file field pointer fits.
          let h = field_fits scope file field pointer fits in
          leaf (Field file field pointer) (factor_code-Field file field pointer)
          (factor_value-Field file field pointer s)
          (field_runs (slice_get s.files file) file field pointer (omega (arith, h.1, few.temporaries)));
      bracket = λ e runs fits.
          let h = bracket_fits scope e fits in
          runs_as (ap (λ d. 2 * d) (bracket_is_deep e)) (factor_code-Bracket e) (factor_value-Bracket e s)
          (λ m pc r a at lt has. runs h m pc r a at (omega arith) has);
      reference = λ b fits.
          let h = reference_fits scope b fits in
          leaf (Reference b) (factor_code-Reference b) (factor_value-Reference b s) (number_runs (b + 1) (omega (arith, h, few.blocks)));
    }

-- from a machine that has what the expression sees, its code computes its value
pub expr_runs : (code : List Op) (s : Sight) (scope : Scope) (e : Expr) (m : Machine) (pc r : ℕ) → IsLimited scope
    → ExprFits scope e → r + (2 * bracket_depth e + 2) < 16 → Agrees m s → m.run.pc ≡ pc
    → HasAt code pc (expr_code e (site_of s) r)
    → Computes code m (pc + length (expr_code e (site_of s) r)) r 50 (expr_value e s)
expr_runs code s scope e m pc r few fits room a at has = every_expr (expr_steps code s scope few) e fits m pc r a at room has
