-- A pointer to a record is looked at, and fields of the record are stored.
use Rattle.std.proofs.Common.{◌≡◌, ◌≢◌, ℕ, ◌+◌, ◌*◌, ◌^◌, ◌<◌, ◌≤◌, Bool, true, false, List, []}
use Rattle.std.proofs.Common.{◌∷◌, ◌++◌, length, Option, Some, None, refl, ap, ◌∙◌, subst, arith}
use Rattle.std.proofs.Common.{length-append, if◌then◌else◌}
use Rattle.std.specs.Prelude.{slice_get, slice_index, nat_lt, not, ◌||◌}
use Rattle.std.proofs.Math.Nat.{mul_comm}
use Rattle.job_types.specs.declared.fault.Fault.TheVariants.{NotOwn, Pointer}
use Rattle.machine_code.specs.declared.op.Op.TheVariants as op
use Rattle.exchange_model.specs.declared.expr.Expr.{Expr}
use Rattle.exchange_model.specs.declared.stmt.StmtKind.TheOpen.{SetField}
use Rattle.exchange_model.specs.Cells.{Placed, field_cell, record_cells}
use Rattle.source_meaning.specs.Value.{may_use, pointer_fault}
use Rattle.job_types.specs.Chain.{holds}
use Rattle.source_meaning.specs.Config.{Item, Config, files_of}
use Rattle.source_meaning.specs.Step.{does}
use Rattle.source_meaning.specs.Changes.{fails as c_fails, goes, unless_fault, where_fits}
use Rattle.source_meaning.specs.Changes.{field_width, sets_cell, at_record, sets_field}
use Rattle.machine_meaning.specs.Machine.{Machine, made_one, reg, checks}
use Rattle.expr_code.specs.Code.{expr_code, own_code, pointer_code}
use Rattle.expr_code.specs.Runs.{HasAt}
use Rattle.expr_code.proofs.Places.{has_front, has_back}
use Rattle.stmt_code.specs.StmtCode.{field_store, range_code}
use Rattle.stmt_code.proofs.Setting.{Setting, places, few_loops}
use Rattle.stmt_code.proofs.At.{At}
use Rattle.stmt_code.proofs.Same.{Same, Follows}
use Rattle.stmt_code.proofs.Instr.{Kept, loops_on, same_loops, ldt, stx, check}
use Rattle.stmt_code.proofs.Widths.{range_sim}
use Rattle.stmt_code.proofs.Values.{expr_in, count_sim, value_sim}
use Rattle.stmt_code.proofs.Kind.{Case, todo_same, at_kept, at_gave, at_valued, goes_on_at}

-- the cell of a field of a record, as the machine computes it
pub cell_is : (p : Placed) (field number : ℕ) → p.first + field + record_cells p.file * number ≡ field_cell p number field
cell_is p field number = omega (arith, mul_comm (record_cells p.file) number)

-- both are kept
pub kept_on : {l m n : Machine} → Kept l m → Kept m n → Kept l n
kept_on {l = l} {m = m} {n = n} p q = record { regs = λ k. q.regs k ∙ p.regs k; loops = loops_on n.run.locals m.run.locals l.run.locals q.loops p.loops }

-- the two faults of a pointer, one after the other
pointer_split : (below mine : Bool) (c : Config) (go : Config → Config)
    → (if below then (if mine then go c else c_fails NotOwn c) else c_fails Pointer c)
    ≡ unless_fault (if below then (if mine then None else Some NotOwn) else Some Pointer) c go
pointer_split true true c go = refl
pointer_split true false c go = refl
pointer_split false mine c go = refl

module _ {g : Setting} where
  -- a record of a forlopp file must be in the chain
  own_sim : {vs : List ℕ} {c : Config} {m : Machine} {a : ℕ} (forlopp : Bool) (file number r : ℕ) (go : Config)
      → reg m.run r ≡ number → Same g vs c m → m.run.pc ≡ a → HasAt g.code a (own_code forlopp file r)
      → ((n : Machine) → Same g vs c n → n.run.pc ≡ a + length (own_code forlopp file r) → Kept m n → Follows g go n)
      → Follows g (if not forlopp || holds c.own.chain file number then go else c_fails NotOwn c) m
  own_sim {m = m} false file number r go is s at has k = k m s (omega (arith, at)) record { regs = λ k. refl; loops = same_loops m.run.locals }
  own_sim {c = c} {m = m} true file number r go is s at has k =
      check (holds c.own.chain file number) (op.Own r file) NotOwn go s at has.0 tt
      (ap (λ y. record { run = checks (holds m.run.own.chain file y) NotOwn (made_one m.run); world = m.world }) is
      ∙ ap (λ l. record { run = checks (holds l file number) NotOwn (made_one m.run); world = m.world }) (ap (λ o. o.chain) s.own))
      k

  -- a pointer in a register is looked at
  pub pointer_sim : {vs : List ℕ} {c : Config} {m : Machine} {a : ℕ} (p : Placed) (file number r : ℕ)
      (go : Config → Config) → reg m.run r ≡ number → Same g vs c m → m.run.pc ≡ a
      → HasAt g.code a (pointer_code p file r)
      → ((n : Machine) → Same g vs c n → n.run.pc ≡ a + length (pointer_code p file r) → Kept m n → Follows g (go c) n)
      → Follows g (unless_fault (pointer_fault c.own.chain file p number) c go) m
  pointer_sim {c = c} {m = m} {a = a} p file number r go is s at has k =
      let below = nat_lt number p.file.size in
      let mine = may_use c.own.chain file p number in
      subst (λ d. Follows g d m) (pointer_split below mine c go)
      (check below (op.Ckp r p.file.size) Pointer (if mine then go c else c_fails NotOwn c) s at has.0 tt
      (ap (λ y. record { run = checks (nat_lt y p.file.size) Pointer (made_one m.run); world = m.world }) is)
      (λ n1 s1 at1 q1.
      own_sim p.file.forlopp file number r (go c) (q1.regs r ∙ is) s1 at1 has.1 (λ n2 s2 at2 q2.
      k n2 s2 (omega (arith, at2)) (kept_on q1 q2))))

  -- the value goes into a field, where nothing is wrong with the pointer and it fits
  field_sim : {c : Config} {m : Machine} {a : ℕ} (o : Option Placed) (file field pointer v d : ℕ) (rest : List Item)
      → d ≤ 12 → pointer < 24 → reg m.run 0 ≡ v → v < 2 ^ 32 → Same g [] c m → m.run.pc ≡ a
      → HasAt g.code a (field_store o file field pointer)
      → At g c.block m.run.locals d rest (a + length (field_store o file field pointer))
      → Follows g (at_record o file (slice_index c.temps pointer) (goes rest c)
      (sets_field (slice_index c.temps pointer) field v)) m
  field_sim {c = c} {m = m} {a = a} None file field pointer v d rest le lt is small s at has r = goes_on_at rest s at
      (subst (At g c.block m.run.locals d rest) (omega arith) r)
  field_sim {c = c} {m = m} {a = a} (Some p) file field pointer v d rest le lt is small s at has r =
      let number = slice_index c.temps pointer in
      let w = field_width p field in
      let cell = field_cell p number field in
      let look = pointer_code p file 1 in
      let range = range_code 0 w in
      let store = op.Stx (p.first + field) (record_cells p.file) 1 0 ∷ [] in
      let tail = range ++ store in
      let h = has_back g.code (a + 1) look tail has.1 in
      let h' = has_back g.code (a + 1 + length look) range store h in
      let len : a + length (field_store (Some p) file field pointer) ≡ a + 1 + length look + length range + 1 =
      omega (arith, length-append look tail, length-append range store) in
      let r0 = subst (At g c.block m.run.locals d rest) len r in
      ldt (todo_same rest s) at has.0 (omega arith) (λ n1 s1 at1 q1.
      let it : reg n1.run 1 ≡ number = q1.is ∙ s.temps.same pointer lt in
      let ne : ◌≢◌ {A = ℕ} 0 1 = omega arith in
      pointer_sim p file number 1 (λ d. where_fits v w d (sets_cell cell v)) it s1 at1 (has_front g.code (a + 1) look tail has.1) (λ n2 s2 at2 q2.
      let value : reg n2.run 0 ≡ v = q2.regs 0 ∙ q1.others 0 ne ∙ is in
      range_sim 0 w v (sets_cell cell v (goes rest c)) value small s2 at2 (has_front g.code (a + 1 + length look) range store h) (λ n3 s3 at3 q3.
      stx cell v s3 at3 h'.0 (ap (λ y. p.first + field + record_cells p.file * y) (q3.regs 1 ∙ q2.regs 1 ∙ it)
      ∙ cell_is p field number) (q3.regs 0 ∙ value) small (λ n4 s4 at4 q4.
      goes_on_at rest s4 at4 (at_kept le q4 (at_kept le q3 (at_kept le q2 (at_gave le q1 r0))))))))

  pub set_field : (file field pointer : ℕ) (e : Expr) → Case g (SetField file field pointer e)
  set_field file field pointer e c m p d a rest s at has fits r =
      let ce = expr_code e (places g c.block).site 0 in
      let o = slice_get (files_of g.exchange) file in
      let tail = field_store o file field pointer in
      let h = has_back g.code (a + 1) ce tail has.1 in
      let len : a + length (op.Stmt p ∷ (ce ++ tail)) ≡ a + 1 + length ce + length tail = omega (arith, length-append ce tail) in
      let le = few_loops fits in
      count_sim (does g.exchange p (SetField file field pointer e) rest) s at has.0 (λ n1 s1 at1 q1.
      value_sim 0 e (λ v d. at_record o file (slice_index d.temps pointer) (goes rest d)
      (sets_field (slice_index d.temps pointer) field v)) (omega arith) (expr_in e [] refl fits) s1 at1
      (has_front g.code (a + 1) ce tail has.1) (λ n2 v loads s2 at2 q2.
      let r2 = subst (At g c.block n2.run.locals d rest) len (at_valued le q2 (at_kept le q1 r)) in
      field_sim o file field pointer v d rest le (omega (arith, fits.fits.names.1, fits.limited.temporaries)) q2.is q2.small s2 at2 h r2))
