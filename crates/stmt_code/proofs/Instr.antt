-- What one instruction does to a machine that has what a job has.
--
-- After each instruction only what it changes is told, so that the next one stands at a machine of
-- which no more is known.
use Rattle.std.proofs.Common.{◌≡◌, ◌≢◌, ℕ, suc, ◌+◌, ◌*◌, ◌%◌, ◌^◌, ◌<◌, ◌≤◌, Bool, true, false}
use Rattle.std.proofs.Common.{List, [], ◌∷◌, ◌++◌, length, refl, ap, ◌∙◌, arith, if◌then◌else◌}
use Rattle.std.specs.Prelude.{slice_index, slice_set, nat_lt, nat_le, ◌==◌}
use Rattle.std.proofs.Math.ListN.{length-set}
use Rattle.std.proofs.lemmas.List.{get_or-set_other, get_or-set_same}
use Rattle.job_types.specs.declared.fault.Fault.{Fault}
use Rattle.machine_code.specs.declared.op.Op.{Op}
use Rattle.machine_code.specs.declared.op.Op.TheVariants as op
use Rattle.job_types.specs.Own.{World, seen, writes}
use Rattle.source_meaning.specs.Value.{load_of, stands}
use Rattle.job_types.specs.Truth.{one_if, at_zero}
use Rattle.source_meaning.specs.Config.{Config}
use Rattle.source_meaning.specs.Changes.{fails as c_fails}
use Rattle.exchange_model.specs.declared.expr.Rel.{Rel}
use Rattle.exchange_model.specs.declared.expr.Rel.TheVariants.{Equal, Unequal, Below, AtMost, Above}
use Rattle.exchange_model.specs.declared.expr.Rel.TheVariants.{AtLeast}
use Rattle.machine_meaning.specs.Machine.{Machine, HasRoom, machine_step, made_one, reg, sets, next}
use Rattle.machine_meaning.specs.Machine.{goes, checks}
use Rattle.expr_code.specs.Code.{rel_op}
use Rattle.expr_code.specs.Runs.{HasOp}
use Rattle.stmt_code.proofs.Setting.{Setting}
use Rattle.stmt_code.proofs.At.{SameLoops}
use Rattle.stmt_code.proofs.Same.{AllSmall, temps_set, temps_keep, set_small, Same, Comes, Follows}
use Rattle.stmt_code.proofs.Same.{by_step, faults}

-- the registers and the locals of the loops are kept
pub record Kept (m n : Machine) : Type 0 where
  pub regs : (k : ℕ) → reg n.run k ≡ reg m.run k
  pub loops : SameLoops 12 n.run.locals m.run.locals

-- one register got a value
pub record Gave (r v : ℕ) (m n : Machine) : Type 0 where
  pub is : reg n.run r ≡ v
  pub others : (k : ℕ) → k ≢ r → reg n.run k ≡ reg m.run k
  pub loops : SameLoops 12 n.run.locals m.run.locals

-- one local got a value
pub record Stored (i v : ℕ) (m n : Machine) : Type 0 where
  pub regs : (k : ℕ) → reg n.run k ≡ reg m.run k
  pub locals : n.run.locals ≡ slice_set m.run.locals i v

pub same_loops : (l : List ℕ) → SameLoops 12 l l
same_loops l i low high = refl

pub loops_on : (j k l : List ℕ) → SameLoops 12 j k → SameLoops 12 k l → SameLoops 12 j l
loops_on j k l p q i low high = p i low high ∙ q i low high

module _ {g : Setting} {P : Machine → Type 0} {vs : List ℕ} {c : Config} {m : Machine} {a : ℕ} where
  -- an instruction that sets a register
  pub sets_by : {r v : ℕ} (i : Op) → Same g vs c m → m.run.pc ≡ a → HasOp g.code a i → HasRoom i m.run → r < 16
      → machine_step i m ≡ record { run = sets r v (made_one m.run); world = m.world }
      → ((n : Machine) → Same g vs c n → n.run.pc ≡ a + 1 → Gave r v m n → Comes g P n) → Comes g P m
  sets_by {r = r} {v = v} i s at has room lt e k =
      let n : Machine = record { run = sets r v (made_one m.run); world = m.world } in
      let s' : Same g vs c n = record {
        own = s.own;
        world = s.world;
        temps = s.temps;
        regs = length-set m.run.regs r v ∙ s.regs;
        small_store = s.small_store;
        small_given = s.small_given;
        small_answers = s.small_answers;
        callers = s.callers;
        out = s.out;
        small_out = s.small_out;
        runs = s.runs;
        going = s.going;
      } in
      by_step i n s.runs at has room e
      (k n s' (ap (λ i. i + 1) at) record {
        is = get_or-set_same m.run.regs r v 0 (omega (arith, s.regs));
        others = λ k ne. get_or-set_other m.run.regs r k v 0 ne;
        loops = same_loops m.run.locals;
      })

  pub ldi : {r v : ℕ} → Same g vs c m → m.run.pc ≡ a → HasOp g.code a (op.Ldi r v) → r < 16
      → ((n : Machine) → Same g vs c n → n.run.pc ≡ a + 1 → Gave r v m n → Comes g P n) → Comes g P m
  ldi s at has lt k = sets_by _ s at has tt lt refl k

  pub ldt : {r i : ℕ} → Same g vs c m → m.run.pc ≡ a → HasOp g.code a (op.Ldt r i) → r < 16
      → ((n : Machine) → Same g vs c n → n.run.pc ≡ a + 1 → Gave r (slice_index m.run.locals i) m n → Comes g P n)
      → Comes g P m
  ldt s at has lt k = sets_by _ s at has tt lt refl k

  pub lde : {r i : ℕ} → Same g vs c m → m.run.pc ≡ a → HasOp g.code a (op.Lde r i) → r < 16
      → ((n : Machine) → Same g vs c n → n.run.pc ≡ a + 1 → Gave r (slice_index c.own.given i) m n → Comes g P n)
      → Comes g P m
  lde {r = r} {i = i} s at has lt k = sets_by _ s at has tt lt
      (ap (λ o. record { run = sets r (slice_index o.given i) (made_one m.run); world = m.world }) s.own) k

  pub lda : {r i : ℕ} → Same g vs c m → m.run.pc ≡ a → HasOp g.code a (op.Lda r i) → r < 16
      → ((n : Machine) → Same g vs c n → n.run.pc ≡ a + 1 → Gave r (slice_index c.own.answers i) m n → Comes g P n)
      → Comes g P m
  lda {r = r} {i = i} s at has lt k = sets_by _ s at has tt lt
      (ap (λ o. record { run = sets r (slice_index o.answers i) (made_one m.run); world = m.world }) s.own) k

  pub add : {r q : ℕ} → Same g vs c m → m.run.pc ≡ a → HasOp g.code a (op.Add r q) → r < 16
      → ((n : Machine) → Same g vs c n → n.run.pc ≡ a + 1 → Gave r ((reg m.run r + reg m.run q) % 2 ^ 32) m n
      → Comes g P n) → Comes g P m
  add s at has lt k = sets_by _ s at has tt lt refl k

  pub gt : {r q : ℕ} → Same g vs c m → m.run.pc ≡ a → HasOp g.code a (op.Gt r q) → r < 16
      → ((n : Machine) → Same g vs c n → n.run.pc ≡ a + 1 → Gave r (one_if (nat_lt (reg m.run q) (reg m.run r))) m n
      → Comes g P n) → Comes g P m
  gt s at has lt k = sets_by _ s at has tt lt refl k

  pub ge : {r q : ℕ} → Same g vs c m → m.run.pc ≡ a → HasOp g.code a (op.Ge r q) → r < 16
      → ((n : Machine) → Same g vs c n → n.run.pc ≡ a + 1 → Gave r (one_if (nat_le (reg m.run q) (reg m.run r))) m n
      → Comes g P n) → Comes g P m
  ge s at has lt k = sets_by _ s at has tt lt refl k

  pub eq : {r q : ℕ} → Same g vs c m → m.run.pc ≡ a → HasOp g.code a (op.Eq r q) → r < 16
      → ((n : Machine) → Same g vs c n → n.run.pc ≡ a + 1 → Gave r (one_if (reg m.run r == reg m.run q)) m n
      → Comes g P n) → Comes g P m
  eq s at has lt k = sets_by _ s at has tt lt refl k

  -- a test of two registers
  pub rel : (r q : ℕ) (rel : Rel) → Same g vs c m → m.run.pc ≡ a → HasOp g.code a (rel_op rel r q) → r < 16
      → ((n : Machine) → Same g vs c n → n.run.pc ≡ a + 1 → Gave r (one_if (stands rel (reg m.run r) (reg m.run q))) m n
      → Comes g P n) → Comes g P m
  rel r q Equal s at has lt k = sets_by _ s at has tt lt refl k
  rel r q Unequal s at has lt k = sets_by _ s at has tt lt refl k
  rel r q Below s at has lt k = sets_by _ s at has tt lt refl k
  rel r q AtMost s at has lt k = sets_by _ s at has tt lt refl k
  rel r q Above s at has lt k = sets_by _ s at has tt lt refl k
  rel r q AtLeast s at has lt k = sets_by _ s at has tt lt refl k

  -- a word is loaded
  pub ldx : {r w n' q : ℕ} (cell : ℕ) → Same g vs c m → m.run.pc ≡ a → HasOp g.code a (op.Ldx r w n' q) → r < 16
      → w + n' * reg m.run q ≡ cell → ((n : Machine)
      → Same g vs (record c { world = seen (load_of c.world.store cell ∷ []) c.world }) n → n.run.pc ≡ a + 1
      → Gave r (slice_index c.world.store cell) m n → Comes g P n) → Comes g P m
  ldx {r = r} {w = w} {n' = n'} {q = q} cell s at has lt is k =
      let v = slice_index c.world.store cell in
      let w' : World = seen (load_of c.world.store cell ∷ []) c.world in
      let n : Machine = record { run = sets r v (made_one m.run); world = w' } in
      let e : machine_step (op.Ldx r w n' q) m ≡ n =
      ap (λ k. record { run = sets r (slice_index m.world.store k) (made_one m.run); world = seen (load_of m.world.store k ∷ []) m.world }) is
      ∙ ap (λ (u : World). record { run = sets r (slice_index u.store cell) (made_one m.run); world = seen (load_of u.store cell ∷ []) u }) s.world in
      let s' : Same g vs (record c { world = w' }) n = record {
        own = s.own;
        world = refl;
        temps = s.temps;
        regs = length-set m.run.regs r v ∙ s.regs;
        small_store = s.small_store;
        small_given = s.small_given;
        small_answers = s.small_answers;
        callers = s.callers;
        out = s.out;
        small_out = s.small_out;
        runs = s.runs;
        going = s.going;
      } in
      by_step (op.Ldx r w n' q) n s.runs at has tt e
      (k n s' (ap (λ i. i + 1) at) record {
        is = get_or-set_same m.run.regs r v 0 (omega (arith, s.regs));
        others = λ k ne. get_or-set_other m.run.regs r k v 0 ne;
        loops = same_loops m.run.locals;
      })

  -- a word is stored
  writes_by : (i : Op) (cell v : ℕ) → Same g vs c m → m.run.pc ≡ a → HasOp g.code a i → HasRoom i m.run → v < 2 ^ 32
      → machine_step i m ≡ record { run = next (made_one m.run); world = writes cell v m.world }
      → ((n : Machine) → Same g vs (record c { world = writes cell v c.world }) n → n.run.pc ≡ a + 1 → Kept m n
      → Comes g P n) → Comes g P m
  writes_by i cell v s at has room small e k =
      let n : Machine = record { run = next (made_one m.run); world = writes cell v m.world } in
      let s' : Same g vs (record c { world = writes cell v c.world }) n = record {
        own = s.own;
        world = ap (writes cell v) s.world;
        temps = s.temps;
        regs = s.regs;
        small_store = set_small c.world.store cell v small s.small_store;
        small_given = s.small_given;
        small_answers = s.small_answers;
        callers = s.callers;
        out = s.out;
        small_out = s.small_out;
        runs = s.runs;
        going = s.going;
      } in
      by_step i n s.runs at has room e
      (k n s' (ap (λ i. i + 1) at) record { regs = λ k. refl; loops = same_loops m.run.locals })

  pub stw : {cell r : ℕ} (v : ℕ) → Same g vs c m → m.run.pc ≡ a → HasOp g.code a (op.Stw cell r) → reg m.run r ≡ v
      → v < 2 ^ 32 → ((n : Machine) → Same g vs (record c { world = writes cell v c.world }) n → n.run.pc ≡ a + 1
      → Kept m n → Comes g P n) → Comes g P m
  stw {cell = cell} {r = r} v s at has is small k =
      writes_by (op.Stw cell r) cell v s at has tt small (ap (λ u. record { run = next (made_one m.run); world = writes cell u m.world }) is) k

  pub stx : {w n' q r : ℕ} (cell v : ℕ) → Same g vs c m → m.run.pc ≡ a → HasOp g.code a (op.Stx w n' q r)
      → w + n' * reg m.run q ≡ cell → reg m.run r ≡ v → v < 2 ^ 32
      → ((n : Machine) → Same g vs (record c { world = writes cell v c.world }) n → n.run.pc ≡ a + 1 → Kept m n
      → Comes g P n) → Comes g P m
  stx {w = w} {n' = n'} {q = q} {r = r} cell v s at has here is small k =
      writes_by (op.Stx w n' q r) cell v s at has tt small
      (ap (λ j. record { run = next (made_one m.run); world = writes j (reg m.run r) m.world }) here
      ∙ ap (λ u. record { run = next (made_one m.run); world = writes cell u m.world }) is) k

  -- on to an address
  goes_by : (i : Op) (to : ℕ) → Same g vs c m → m.run.pc ≡ a → HasOp g.code a i → HasRoom i m.run
      → machine_step i m ≡ record { run = goes to (made_one m.run); world = m.world }
      → ((n : Machine) → Same g vs c n → n.run.pc ≡ to → Kept m n → Comes g P n) → Comes g P m
  goes_by i to s at has room e k =
      let n : Machine = record { run = goes to (made_one m.run); world = m.world } in
      let s' : Same g vs c n = record {
        own = s.own;
        world = s.world;
        temps = s.temps;
        regs = s.regs;
        small_store = s.small_store;
        small_given = s.small_given;
        small_answers = s.small_answers;
        callers = s.callers;
        out = s.out;
        small_out = s.small_out;
        runs = s.runs;
        going = s.going;
      } in
      by_step i n s.runs at has room e (k n s' refl record { regs = λ k. refl; loops = same_loops m.run.locals })

  pub jmp : {to : ℕ} → Same g vs c m → m.run.pc ≡ a → HasOp g.code a (op.Jmp to)
      → ((n : Machine) → Same g vs c n → n.run.pc ≡ to → Kept m n → Comes g P n) → Comes g P m
  jmp {to = to} s at has k = goes_by (op.Jmp to) to s at has tt refl k

  -- the same, with all locals
  pub jmp_on : {to : ℕ} → Same g vs c m → m.run.pc ≡ a → HasOp g.code a (op.Jmp to)
      → ((n : Machine) → Same g vs c n → n.run.pc ≡ to → n.run.locals ≡ m.run.locals → Comes g P n) → Comes g P m
  jmp_on {to = to} s at has k =
      let n : Machine = record { run = goes to (made_one m.run); world = m.world } in
      let s' : Same g vs c n = record {
        own = s.own;
        world = s.world;
        temps = s.temps;
        regs = s.regs;
        small_store = s.small_store;
        small_given = s.small_given;
        small_answers = s.small_answers;
        callers = s.callers;
        out = s.out;
        small_out = s.small_out;
        runs = s.runs;
        going = s.going;
      } in
      by_step (op.Jmp to) n s.runs at has tt refl (k n s' refl refl)

  -- a jump where a register is 0, and no jump where it is not
  pub jz_zero : {r to : ℕ} → Same g vs c m → m.run.pc ≡ a → HasOp g.code a (op.Jz r to) → reg m.run r ≡ 0
      → ((n : Machine) → Same g vs c n → n.run.pc ≡ to → Kept m n → Comes g P n) → Comes g P m
  jz_zero {r = r} {to = to} s at has is k =
      goes_by (op.Jz r to) to s at has tt (ap (λ v. record { run = at_zero v (goes to (made_one m.run)) (next (made_one m.run)); world = m.world }) is) k

  pub jz_other : {r to v : ℕ} → Same g vs c m → m.run.pc ≡ a → HasOp g.code a (op.Jz r to) → reg m.run r ≡ suc v
      → ((n : Machine) → Same g vs c n → n.run.pc ≡ a + 1 → Kept m n → Comes g P n) → Comes g P m
  jz_other {r = r} {to = to} {v = v} s at has is k =
      goes_by (op.Jz r to) (m.run.pc + 1) s at has tt
      (ap (λ v. record { run = at_zero v (goes to (made_one m.run)) (next (made_one m.run)); world = m.world }) is)
      (λ n s' at' q. k n s' (at' ∙ ap (λ i. i + 1) at) q)

  -- the same, where the register has the result of a test
  pub jz_test : {r to : ℕ} (b : Bool) → Same g vs c m → m.run.pc ≡ a → HasOp g.code a (op.Jz r to)
      → reg m.run r ≡ one_if b → (b ≡ false → (n : Machine) → Same g vs c n → n.run.pc ≡ to → Kept m n → Comes g P n)
      → (b ≡ true → (n : Machine) → Same g vs c n → n.run.pc ≡ a + 1 → Kept m n → Comes g P n) → Comes g P m
  jz_test false s at has is j k = jz_zero s at has is (j refl)
  jz_test true s at has is j k = jz_other s at has is (k refl)

  -- a temporary gets a value
  pub stt : {t r : ℕ} (v : ℕ) → Same g vs c m → m.run.pc ≡ a → HasOp g.code a (op.Stt t r) → t < 24 → reg m.run r ≡ v
      → v < 2 ^ 32 → ((n : Machine) → Same g vs (record c { temps = slice_set c.temps t v }) n → n.run.pc ≡ a + 1
      → Kept m n → Comes g P n) → Comes g P m
  stt {t = t} {r = r} v s at has lt is small k =
      let n : Machine = record { run = next (record (made_one m.run) { locals = slice_set m.run.locals t v }); world = m.world } in
      let s' : Same g vs (record c { temps = slice_set c.temps t v }) n = record {
        own = s.own;
        world = s.world;
        temps = temps_set t v lt small s.temps;
        regs = s.regs;
        small_store = s.small_store;
        small_given = s.small_given;
        small_answers = s.small_answers;
        callers = s.callers;
        out = s.out;
        small_out = s.small_out;
        runs = s.runs;
        going = s.going;
      } in
      by_step (op.Stt t r) n s.runs at has tt (ap
      (λ u. record {
        run = next (record (made_one m.run) { locals = slice_set m.run.locals t u });
        world = m.world;
      }) is)
      (k n s' (ap (λ i. i + 1) at) record { regs = λ k. refl; loops = λ i low high. let ne : i ≢ t = omega arith in get_or-set_other m.run.locals t i v 0 ne })

  -- another local gets a value
  pub stl : {i r : ℕ} (v : ℕ) → Same g vs c m → m.run.pc ≡ a → HasOp g.code a (op.Stt i r) → 24 ≤ i → reg m.run r ≡ v
      → ((n : Machine) → Same g vs c n → n.run.pc ≡ a + 1 → Stored i v m n → Comes g P n) → Comes g P m
  stl {i = i} {r = r} v s at has le is k =
      let n : Machine = record { run = next (record (made_one m.run) { locals = slice_set m.run.locals i v }); world = m.world } in
      let s' : Same g vs c n = record {
        own = s.own;
        world = s.world;
        temps = temps_keep i v le s.temps;
        regs = s.regs;
        small_store = s.small_store;
        small_given = s.small_given;
        small_answers = s.small_answers;
        callers = s.callers;
        out = s.out;
        small_out = s.small_out;
        runs = s.runs;
        going = s.going;
      } in
      by_step (op.Stt i r) n s.runs at has tt (ap
      (λ u. record {
        run = next (record (made_one m.run) { locals = slice_set m.run.locals i u });
        world = m.world;
      }) is)
      (k n s' (ap (λ i. i + 1) at) record { regs = λ k. refl; locals = refl })

  -- a register joins the outgoing values
  pub arg : {r : ℕ} (v : ℕ) → Same g vs c m → m.run.pc ≡ a → HasOp g.code a (op.Arg r) → length vs < 8 → reg m.run r ≡ v
      → v < 2 ^ 32 → AllSmall (vs ++ v ∷ []) → ((n : Machine) → Same g (vs ++ v ∷ []) c n → n.run.pc ≡ a + 1 → Kept m n
      → Comes g P n) → Comes g P m
  arg {r = r} v s at has lt is small all k =
      let n : Machine = record { run = next (record (made_one m.run) { out = vs ++ v ∷ [] }); world = m.world } in
      let s' : Same g (vs ++ v ∷ []) c n = record {
        own = s.own;
        world = s.world;
        temps = s.temps;
        regs = s.regs;
        small_store = s.small_store;
        small_given = s.small_given;
        small_answers = s.small_answers;
        callers = s.callers;
        out = refl;
        small_out = all;
        runs = s.runs;
        going = s.going;
      } in
      by_step (op.Arg r) n s.runs at has (omega (arith, lt, ap length s.out))
      (ap (λ o. record { run = next (record (made_one m.run) { out = o ++ reg m.run r ∷ [] }); world = m.world }) s.out
      ∙ ap (λ u. record { run = next (record (made_one m.run) { out = vs ++ u ∷ [] }); world = m.world }) is)
      (k n s' (ap (λ i. i + 1) at) record { regs = λ k. refl; loops = same_loops m.run.locals })

-- an instruction that ends the job by a fault unless a test holds
pub check : {g : Setting} {vs : List ℕ} {c : Config} {m : Machine} {a : ℕ} (b : Bool) (i : Op) (f : Fault) (go : Config)
    → Same g vs c m → m.run.pc ≡ a → HasOp g.code a i → HasRoom i m.run
    → machine_step i m ≡ record { run = checks b f (made_one m.run); world = m.world }
    → ((n : Machine) → Same g vs c n → n.run.pc ≡ a + 1 → Kept m n → Follows g go n)
    → Follows g (if b then go else c_fails f c) m
check {m = m} true i f go s at has room e k = goes_by i (m.run.pc + 1) s at has room e (λ n s' at' q. k n s' (at' ∙ ap (λ i. i + 1) at) q)
check false i f go s at has room e k = faults i f s at has room e
