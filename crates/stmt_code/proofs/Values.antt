-- A statement is counted, and its expressions are computed, in the job and in the machine.
use Rattle.std.proofs.Common.{◌≡◌, ℕ, ◌+◌, ◌^◌, ◌<◌, ◌≤◌, Bool, true, false, List, [], ◌∷◌, ◌++◌}
use Rattle.std.proofs.Common.{length, Some, refl, sym, ap, ◌∙◌, subst, arith, length-append}
use Rattle.std.proofs.Common.{if◌then◌else◌}
use Rattle.std.specs.Prelude.{nat_lt}
use Rattle.std.specs.List.{AllByRecursion}
use Rattle.job_types.specs.declared.fault.Fault.TheVariants.{Budget}
use Rattle.job_types.specs.declared.outcome.Outcome.TheVariants.{Faulted}
use Rattle.machine_code.specs.declared.op.Op.TheVariants as op
use Rattle.job_types.specs.declared.touch.Touch.{Touch}
use Rattle.exchange_model.specs.declared.exchange.Exchange.{Exchange}
use Rattle.exchange_model.specs.declared.block.Block.{Block}
use Rattle.exchange_model.specs.declared.expr.Expr.{Expr}
use Rattle.exchange_model.specs.declared.expr.Cond.{Cond}
use Rattle.exchange_model.specs.declared.stmt.Stmt.{Stmt}
use Rattle.exchange_model.specs.declared.stmt.When.{When}
use Rattle.exchange_model.specs.declared.stmt.StmtKind.{StmtKind, StmtKind-F}
use Rattle.exchange_model.specs.Inside.{bracket_depth, own_exprs, cond_exprs}
use Rattle.exchange_model.specs.Fits.{ExprFits, ExprsFit}
use Rattle.exchange_model.specs.Kept.{scope_of, IsExchange}
use Rattle.job_types.specs.Own.{World, seen, counted, budget}
use Rattle.source_meaning.specs.Value.{Got, expr_value, cond_value}
use Rattle.source_meaning.specs.Config.{Config, sight, from_place, from_signal, label_of}
use Rattle.source_meaning.specs.Step.{count}
use Rattle.source_meaning.specs.Changes.{fails as c_fails, on_value, on_values}
use Rattle.machine_meaning.specs.Machine.{Machine, machine_step, made_one, reg, next, fails}
use Rattle.expr_code.specs.Code.{expr_code, cond_code}
use Rattle.expr_code.specs.Sites.{IsLimited}
use Rattle.expr_code.specs.Runs.{HasOp, HasAt, Agrees, Calc, Computes, KeepsRegisters, gives, stops}
use Rattle.expr_code.proofs.Places.{has_front, has_back}
use Rattle.expr_code.proofs.ExprRuns.{expr_runs}
use Rattle.expr_code.proofs.CondRuns.{cond_runs}
use Rattle.stmt_code.specs.StmtCode.{values_code}
use Rattle.stmt_code.specs.Within.{LayerIn}
use Rattle.stmt_code.proofs.Setting.{Setting, places}
use Rattle.stmt_code.proofs.At.{SameLoops, At}
use Rattle.stmt_code.proofs.Same.{append_small, one_small, Same, Waits, Follows, by_way, by_step}
use Rattle.stmt_code.proofs.Same.{is_over}
use Rattle.stmt_code.proofs.Instr.{Kept, same_loops, loops_on, arg}

-- the exchange keeps what exchanges keep, and texts and signals stand at their addresses
pub record Laid (g : Setting) : Type 0 where
  pub kept : IsExchange g.exchange
  pub texts : (b l : ℕ) (locals : List ℕ) → At g b locals 0 (from_place g.exchange b (label_of g.exchange b l)) (g.table.label b l)
  pub enters : (b signal : ℕ) (locals : List ℕ) → At g b locals 0 (from_signal g.exchange b signal) (g.table.enter b signal)

-- an expression of a block, and a condition
pub record ExprIn (x : Exchange) (b : ℕ) (e : Expr) : Type 0 where
  pub block : Block
  pub limited : IsLimited (scope_of x b block)
  pub fits : ExprFits (scope_of x b block) e
  pub shallow : bracket_depth e ≤ 6

pub record CondIn (x : Exchange) (b : ℕ) (c : Cond) : Type 0 where
  pub block : Block
  pub limited : IsLimited (scope_of x b block)
  pub fits : ExprsFit (scope_of x b block) (cond_exprs c)

-- the first expression of a statement, and its condition
pub expr_in : {x : Exchange} {b d : ℕ} {l : StmtKind-F StmtKind Stmt When} (e : Expr) (es : List Expr) → own_exprs l ≡ e ∷ es → LayerIn x b d l → ExprIn x b e
expr_in {x = x} {b = b} e es same h =
    let fits = subst (ExprsFit (scope_of x b h.block)) same h.fits.exprs in
    record { block = h.block; limited = h.limited; fits = fits.each.0; shallow = fits.shallow.0 }

pub second_in : {x : Exchange} {b d : ℕ} {l : StmtKind-F StmtKind Stmt When} (e f : Expr) (es : List Expr)
    → own_exprs l ≡ e ∷ f ∷ es → LayerIn x b d l → ExprIn x b f
second_in {x = x} {b = b} e f es same h =
    let fits = subst (ExprsFit (scope_of x b h.block)) same h.fits.exprs in
    record { block = h.block; limited = h.limited; fits = fits.each.1.0; shallow = fits.shallow.1.0 }

pub cond_in : {x : Exchange} {b d : ℕ} {l : StmtKind-F StmtKind Stmt When} (c : Cond) → own_exprs l ≡ cond_exprs c → LayerIn x b d l → CondIn x b c
cond_in {x = x} {b = b} c same h = record { block = h.block; limited = h.limited; fits = subst (ExprsFit (scope_of x b h.block)) same h.fits.exprs }

exprs_of : (x : Exchange) (b : ℕ) (k : Block) (es : List Expr) → IsLimited (scope_of x b k)
    → AllByRecursion (ExprFits (scope_of x b k)) es → AllByRecursion (λ e. bracket_depth e ≤ 6) es
    → AllByRecursion (ExprIn x b) es
exprs_of x b k [] few each shallow = tt
exprs_of x b k (e ∷ es) few each shallow = (record { block = k; limited = few; fits = each.0; shallow = shallow.0 }, exprs_of x b k es few each.1 shallow.1)

pub exprs_in : {x : Exchange} {b d : ℕ} {l : StmtKind-F StmtKind Stmt When} → LayerIn x b d l → AllByRecursion (ExprIn x b) (own_exprs l)
exprs_in {x = x} {b = b} {l = l} h = exprs_of x b h.block (own_exprs l) h.limited h.fits.exprs.each h.fits.exprs.shallow

-- a value was computed
pub record Valued (r v : ℕ) (m n : Machine) : Type 0 where
  pub is : reg n.run r ≡ v
  pub small : v < 2 ^ 32
  pub low : KeepsRegisters r m n
  pub loops : SameLoops 12 n.run.locals m.run.locals

module _ {g : Setting} where
  -- the statement is counted
  count_cases : (b : Bool) (c : Config) (m : Machine) (p a : ℕ) (go : Config → Config) → nat_lt c.own.count budget ≡ b
      → Same g [] c m → m.run.pc ≡ a → HasOp g.code a (op.Stmt p)
      → ((n : Machine) → Same g [] (record c { own = counted p c.own }) n → n.run.pc ≡ a + 1 → Kept m n → Follows g (go (record c { own = counted p c.own })) n)
      → Follows g (if b then go (record c { own = counted p c.own }) else c_fails Budget (record c { own = counted p c.own })) m
  count_cases true c m p a go e s at has k =
      let n : Machine = record { run = next (record (made_one m.run) { own = counted p m.run.own }); world = m.world } in
      let is : machine_step (op.Stmt p) m ≡ n =
      ap (λ b. record {
        run = (if b then next (record (made_one m.run) { own = counted p m.run.own })
            else fails Budget (record (made_one m.run) { own = counted p m.run.own }));
        world = m.world;
      })
      (ap (λ o. nat_lt o.count budget) s.own ∙ e) in
      let s' : Same g [] (record c { own = counted p c.own }) n = record {
        own = ap (counted p) s.own;
        world = s.world;
        temps = s.temps;
        regs = s.regs;
        small_store = s.small_store;
        small_given = s.small_given;
        small_answers = s.small_answers;
        callers = s.callers;
        out = s.out;
        small_out = s.small_out;
        runs = s.runs;
        going = s.going;
      } in
      by_step (op.Stmt p) n s.runs at has tt is
      (k n s' (ap (λ i. i + 1) at) record { regs = λ k. refl; loops = same_loops m.run.locals })
  count_cases false c m p a go e s at has k =
      let n : Machine = record { run = fails Budget (record (made_one m.run) { own = counted p m.run.own }); world = m.world } in
      let is : machine_step (op.Stmt p) m ≡ n =
      ap (λ b. record {
        run = (if b then next (record (made_one m.run) { own = counted p m.run.own })
            else fails Budget (record (made_one m.run) { own = counted p m.run.own }));
        world = m.world;
      })
      (ap (λ o. nat_lt o.count budget) s.own ∙ e) in
      by_step (op.Stmt p) n s.runs at has tt is (is_over refl refl (ap (counted p) s.own) s.world)

  pub count_sim : {c : Config} {m : Machine} {p a : ℕ} (go : Config → Config) → Same g [] c m → m.run.pc ≡ a → HasOp g.code a (op.Stmt p)
      → ((n : Machine) → Same g [] (record c { own = counted p c.own }) n → n.run.pc ≡ a + 1 → Kept m n → Follows g (go (record c { own = counted p c.own })) n)
      → Follows g (count p c go) m
  count_sim {c = c} {m = m} {p = p} {a = a} go s at has k = count_cases (nat_lt c.own.count budget) c m p a go refl s at has k

  same_on : {vs : List ℕ} {c : Config} {m n : Machine} {a r l : ℕ} {loads : List Touch} → 48 ≤ l
      → Calc g.code m n a loads r l → Same g vs c m → Same g vs (record c { world = seen loads c.world }) n
  same_on {c = c} {loads = loads} le q s = record {
    own = q.own ∙ s.own;
    world = q.world ∙ ap (seen loads) s.world;
    temps = record {
      same = λ t lt. q.locals t (omega arith) ∙ s.temps.same t lt;
      size = s.temps.size;
      wide = q.length_locals ∙ s.temps.wide;
      small = s.temps.small;
    };
    regs = q.registers ∙ s.regs;
    small_store = s.small_store;
    small_given = s.small_given;
    small_answers = s.small_answers;
    callers = subst (Waits g c.callers) (sym q.frames) s.callers;
    out = q.out ∙ s.out;
    small_out = s.small_out;
    runs = q.over;
    going = s.going;
  }

  pub got_sim : {vs : List ℕ} {got : Got} {m : Machine} {a r l : ℕ} (c : Config) (go : ℕ → Config → Config) → 48 ≤ l
      → Same g vs c m → Computes g.code m a r l got
      → ((n : Machine) (v : ℕ) (loads : List Touch) → Same g vs (record c { world = seen loads c.world }) n
      → n.run.pc ≡ a → Valued r v m n → Follows g (go v (record c { world = seen loads c.world })) n)
      → Follows g (on_value got c go) m
  got_sim c go le s (gives {n = n} {loads = loads} {v = v} q e lt) k =
      by_way q.goes (k n v loads (same_on le q s) q.at record { is = e; small = lt; low = q.low; loops = λ i low high. q.locals i (omega arith) })
  got_sim c go le s (stops {loads = loads} {f = f} q) k =
      by_way q.goes (is_over refl (q.over ∙ ap (λ o. Some (Faulted f o.point)) s.own) (q.own ∙ s.own) (q.world ∙ ap (seen loads) s.world))

  pub agrees : {vs : List ℕ} {c : Config} {m : Machine} → Same g vs c m → Agrees m (sight g.exchange c)
  agrees s = record {
    store = ap (λ w. w.store) s.world;
    temps = s.temps.same;
    chain = ap (λ o. o.chain) s.own;
    small_store = s.small_store;
    small_temps = s.temps.small;
    registers = s.regs;
    locals = s.temps.wide;
    runs = s.runs;
  }

  -- an expression whose value is used
  pub value_sim : {vs : List ℕ} {c : Config} {m : Machine} {a : ℕ} (r : ℕ) (e : Expr) (go : ℕ → Config → Config) → r ≤ 1
      → ExprIn g.exchange c.block e → Same g vs c m → m.run.pc ≡ a
      → HasAt g.code a (expr_code e (places g c.block).site r)
      → ((n : Machine) (v : ℕ) (loads : List Touch) → Same g vs (record c { world = seen loads c.world }) n
      → n.run.pc ≡ a + length (expr_code e (places g c.block).site r) → Valued r v m n
      → Follows g (go v (record c { world = seen loads c.world })) n)
      → Follows g (on_value (expr_value e (sight g.exchange c)) c go) m
  value_sim {c = c} {m = m} {a = a} r e go le h s at has k =
      got_sim c go (omega arith) s (expr_runs g.code (sight g.exchange c) (scope_of g.exchange c.block h.block) e m a r
      h.limited h.fits (omega (arith, h.shallow)) (agrees s) at has) k

  -- a condition whose value is used
  pub cond_sim : {vs : List ℕ} {c : Config} {m : Machine} {a : ℕ} (e : Cond) (go : ℕ → Config → Config)
      → CondIn g.exchange c.block e → Same g vs c m → m.run.pc ≡ a
      → HasAt g.code a (cond_code e (places g c.block).site)
      → ((n : Machine) (v : ℕ) (loads : List Touch) → Same g vs (record c { world = seen loads c.world }) n
      → n.run.pc ≡ a + length (cond_code e (places g c.block).site) → Valued 0 v m n
      → Follows g (go v (record c { world = seen loads c.world })) n)
      → Follows g (on_value (cond_value e (sight g.exchange c)) c go) m
  cond_sim {c = c} {m = m} {a = a} e go h s at has k =
      got_sim c go (omega arith) s (cond_runs g.code (sight g.exchange c) (scope_of g.exchange c.block h.block) e m a h.limited h.fits (agrees s) at has) k

  -- values from left to right become the outgoing ones, by way of a register; those below it are
  -- kept
  pub values_sim : {c : Config} {m : Machine} {a : ℕ} (r : ℕ) (es : List Expr) (vs : List ℕ)
      (go : List ℕ → Config → Config) → r ≤ 1 → AllByRecursion (ExprIn g.exchange c.block) es
      → length vs + length es ≤ 8 → Same g vs c m → m.run.pc ≡ a
      → HasAt g.code a (values_code es (places g c.block).site r)
      → ((n : Machine) (w : World) (us : List ℕ) → length us ≡ length vs + length es
      → Same g us (record c { world = w }) n → n.run.pc ≡ a + length (values_code es (places g c.block).site r)
      → KeepsRegisters r m n → SameLoops 12 n.run.locals m.run.locals
      → Follows g (go us (record c { world = w })) n)
      → Follows g (on_values g.exchange es vs c go) m
  values_sim {c = c} {m = m} r [] vs go low h le s at has k = k m c.world vs (omega arith) s (omega (arith, at)) (λ i lt. refl) (same_loops m.run.locals)
  values_sim {c = c} {m = m} {a = a} r (e ∷ es) vs go low h le s at has k =
      let site = (places g c.block).site in
      let ce = expr_code e site r in
      let more = values_code es site r in
      let h' = has_back g.code a ce (op.Arg r ∷ more) has in
      value_sim r e (λ v d. on_values g.exchange es (vs ++ v ∷ []) d go) low h.0 s at (has_front g.code a ce (op.Arg r ∷ more) has) (λ n v loads s2 at2 q.
      arg v s2 at2 h'.0 (omega (arith, le)) q.is q.small (append_small vs (v ∷ []) s.small_out (one_small v q.small)) (λ n2 s3 at3 q2.
      let few : length (vs ++ v ∷ []) + length es ≤ 8 = omega (arith, le, length-append vs (v ∷ [])) in
      let len : a + length ce + 1 + length more ≡ a + length (ce ++ op.Arg r ∷ more) = omega (arith, length-append ce (op.Arg r ∷ more)) in
      values_sim {c = record c { world = seen loads c.world }} {m = n2} {a = a + length ce + 1} r es (vs ++ v ∷ []) go
      low h.1 few s3 at3 h'.1 (λ n3 w us long s4 at4 kept loops.
      k n3 w us (omega (arith, long, length-append vs (v ∷ []))) s4 (at4 ∙ len)
      (λ i lt. kept i lt ∙ q2.regs i ∙ q.low i lt)
      (loops_on n3.run.locals n2.run.locals m.run.locals loops
      (loops_on n2.run.locals n.run.locals m.run.locals q2.loops q.loops)))))
