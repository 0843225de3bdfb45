-- Computations one after the other, and those of one instruction.
use Rattle.std.proofs.Common.{◌≡◌, ◌≢◌, ℕ, ◌+◌, ◌%◌, ◌^◌, ◌<◌, ◌≤◌, Bool, true, false, List, []}
use Rattle.std.proofs.Common.{◌++◌, length, Some, None, refl, sym, ap, ◌∙◌, subst, arith}
use Rattle.std.proofs.Common.{append_assoc, if◌then◌else◌}
use Rattle.std.proofs.Math.ListN.{length-set}
use Rattle.std.proofs.lemmas.List.{get_or-set_other, get_or-set_same, append-nil}
use Rattle.std.specs.Prelude.{slice_get}
use Rattle.job_types.specs.declared.fault.Fault.{Fault}
use Rattle.job_types.specs.declared.outcome.Outcome.TheVariants.{Faulted}
use Rattle.machine_code.specs.declared.op.Op.{Op}
use Rattle.job_types.specs.declared.touch.Touch.{Touch}
use Rattle.job_types.specs.Own.{World, seen}
use Rattle.source_meaning.specs.Value.{Got, Gives, Fails, Sight, after_loads, with_value}
use Rattle.machine_meaning.specs.Machine.{Machine, Goes, here, by_op, HasRoom, machine_step, reg}
use Rattle.machine_meaning.specs.Machine.{sets, fails, checks, made_one}
use Rattle.expr_code.specs.Runs.{HasOp, Agrees, Calc, Computes, gives, stops}

pub goes_on : {code : List Op} {a b c : Machine} → Goes code a b → Goes code b c → Goes code a c
goes_on here h = h
goes_on (by_op op o e w g) h = by_op op o e w (goes_on g h)

pub seen_append : (x y : List Touch) (w : World) → seen y (seen x w) ≡ seen (x ++ y) w
seen_append x y w = ap (λ t. record w { trace = t }) (append_assoc w.trace x y)

pub seen_none : (w : World) → w ≡ seen [] w
seen_none w = ap (λ t. record w { trace = t }) (sym (append-nil w.trace))

-- what is kept after two is what both keep
pub calc_on : {code : List Op} {a b c : Machine} {pc1 pc2 : ℕ} {x y : List Touch} {r1 r2 l1 l2 : ℕ} → r2 ≤ r1 → l2 ≤ l1
    → Calc code a b pc1 x r1 l1 → Calc code b c pc2 y r2 l2 → Calc code a c pc2 (x ++ y) r2 l2
calc_on {a = a} {x = x} {y = y} le le' p q = record {
  goes = goes_on p.goes q.goes;
  at = q.at;
  registers = q.registers ∙ p.registers;
  low = λ k lt. q.low k lt ∙ p.low k (omega arith);
  length_locals = q.length_locals ∙ p.length_locals;
  locals = λ k lt. q.locals k lt ∙ p.locals k (omega arith);
  out = q.out ∙ p.out;
  frames = q.frames ∙ p.frames;
  own = q.own ∙ p.own;
  world = q.world ∙ ap (seen y) p.world ∙ seen_append x y a.world;
  over = q.over;
}

-- what keeps more keeps less
pub calc_fewer : {code : List Op} {m n : Machine} {pc : ℕ} {x : List Touch} {r1 r2 l1 l2 : ℕ} → r2 ≤ r1 → l2 ≤ l1
    → Calc code m n pc x r1 l1 → Calc code m n pc x r2 l2
calc_fewer le le' p = record {
  goes = p.goes;
  at = p.at;
  registers = p.registers;
  low = λ k lt. p.low k (omega arith);
  length_locals = p.length_locals;
  locals = λ k lt. p.locals k (omega arith);
  out = p.out;
  frames = p.frames;
  own = p.own;
  world = p.world;
  over = p.over;
}

pub agrees_on : {code : List Op} {m n : Machine} {pc : ℕ} {x : List Touch} {r l : ℕ} {s : Sight} → 24 ≤ l → Calc code m n pc x r l → Agrees m s → Agrees n s
agrees_on le p a = record {
  store = ap (λ w. w.store) p.world ∙ a.store;
  temps = λ t lt. p.locals t (omega arith) ∙ a.temps t lt;
  chain = ap (λ o. o.chain) p.own ∙ a.chain;
  small_store = a.small_store;
  small_temps = a.small_temps;
  registers = p.registers ∙ a.registers;
  locals = p.length_locals ∙ a.locals;
  runs = p.over;
}

pub after_none : (got : Got) → after_loads [] got ≡ got
after_none (Gives x v) = refl
after_none (Fails x f) = refl

module _ (code : List Op) where
  pub computes_fewer : {got : Got} {m : Machine} {pc r l1 l2 : ℕ} → l2 ≤ l1 → Computes code m pc r l1 got → Computes code m pc r l2 got
  computes_fewer {r = r} le (gives q e lt) = let same : r ≤ r = omega arith in gives (calc_fewer same le q) e lt
  computes_fewer le (stops q) = stops q

  -- a computation behind loads
  pub extend : {got : Got} {m n : Machine} {pc1 pc2 : ℕ} {x : List Touch} {r1 r2 l1 l2 : ℕ} → r2 ≤ r1 → l2 ≤ l1
      → Calc code m n pc1 x r1 l1 → Computes code n pc2 r2 l2 got → Computes code m pc2 r2 l2 (after_loads x got)
  extend le le' p (gives q e lt) = gives (calc_on le le' p q) e lt
  extend {m = m} {x = x} le le' p (stops {loads = y} {f = f} q) = stops record {
    goes = goes_on p.goes q.goes;
    own = q.own ∙ p.own;
    world = q.world ∙ ap (seen y) p.world ∙ seen_append x y m.world;
    over = q.over ∙ ap (λ o. Some (Faulted f o.point)) p.own;
  }

  -- a computation, and then one that goes on with the value
  pub bind_runs : {got : Got} (go : ℕ → Got) {m : Machine} {pc1 pc2 r1 r2 l1 l2 : ℕ} → r2 ≤ r1 → l2 ≤ l1
      → Computes code m pc1 r1 l1 got → ((n : Machine) (loads : List Touch) (v : ℕ) → Calc code m n pc1 loads r1 l1
      → reg n.run r1 ≡ v → v < 2 ^ 32 → Computes code n pc2 r2 l2 (go v))
      → Computes code m pc2 r2 l2 (with_value got go)
  bind_runs go le le' (gives {n = n} {loads = x} {v = v} q e lt) k = extend le le' q (k n x v q e lt)
  bind_runs go le le' (stops q) k = stops q

  -- a computation with no load, and then another
  pub then_runs : {got : Got} {v : ℕ} {m : Machine} {pc1 pc2 r1 r2 l1 l2 : ℕ} → r2 ≤ r1 → l2 ≤ l1
      → Computes code m pc1 r1 l1 (Gives [] v)
      → ((n : Machine) → Calc code m n pc1 [] r1 l1 → reg n.run r1 ≡ v → Computes code n pc2 r2 l2 got)
      → Computes code m pc2 r2 l2 got
  then_runs {got = got} {m = m} {pc2 = pc2} {r2 = r2} {l2 = l2} le le' (gives {n = n} q e lt) k = subst
      (Computes code m pc2 r2 l2) (after_none got) (extend le le' q (k n q e))

  -- a test that may fault, and then a computation
  pub check_runs : (test : Bool) (f : Fault) (v : ℕ) (got : Got) {m : Machine} {pc1 pc2 r1 r2 l1 l2 : ℕ} → r2 ≤ r1
      → l2 ≤ l1 → Computes code m pc1 r1 l1 (if test then Gives [] v else Fails [] f)
      → ((n : Machine) → Calc code m n pc1 [] r1 l1 → reg n.run r1 ≡ v → Computes code n pc2 r2 l2 got)
      → Computes code m pc2 r2 l2 (if test then got else Fails [] f)
  check_runs true f v got le le' c k = then_runs le le' c k
  check_runs false f v got le le' (stops q) k = stops q

  -- only the address and the number of instructions made are other ones, and the value stands in
  -- its register
  moved : (m : Machine) (pc made r v : ℕ) → Goes code m
      (record { run = record m.run { pc = pc; made = made }; world = m.world }) → m.run.over ≡ None → reg m.run r ≡ v
      → v < 2 ^ 32 → Computes code m pc r 50 (Gives [] v)
  moved m pc made r v goes over is small =
      gives
      record {
        goes = goes;
        at = refl;
        registers = refl;
        low = λ k lt. refl;
        length_locals = refl;
        locals = λ k lt. refl;
        out = refl;
        frames = refl;
        own = refl;
        world = seen_none m.world;
        over = over;
      }
      is small

  -- no instruction
  pub nothing : (m : Machine) (pc r v : ℕ) → m.run.pc ≡ pc → m.run.over ≡ None → reg m.run r ≡ v → v < 2 ^ 32 → Computes code m pc r 50 (Gives [] v)
  nothing m pc r v at over is small = subst (λ a. Computes code m a r 50 (Gives [] v)) at (moved m m.run.pc m.run.made r v here over is small)

  -- where the machine stands at an instruction
  pub record StandsAt (m : Machine) (pc : ℕ) (op : Op) : Type 0 where
    pub at : m.run.pc ≡ pc
    pub over : m.run.over ≡ None
    pub registers : length m.run.regs ≡ 16
    pub has : HasOp code pc op
    pub room : HasRoom op m.run

  -- one step
  pub one_step : {m n : Machine} {pc : ℕ} {op : Op} → StandsAt m pc op → machine_step op m ≡ n → Goes code m n
  one_step {op = op} s e = by_op op s.over (ap (slice_get code) s.at ∙ s.has.is) (s.has.fits, s.room) (subst (Goes code _) e here)

  -- one instruction that sets a register
  pub op_sets : (m : Machine) (op : Op) (pc r v : ℕ) (loads : List Touch) (w : World) → StandsAt m pc op → v < 2 ^ 32
      → r < 16 → machine_step op m ≡ record { run = sets r v (made_one m.run); world = w } → w ≡ seen loads m.world
      → Computes code m (pc + 1) r 50 (Gives loads v)
  op_sets m op pc r v loads w s small lt e is =
      let within : r < length m.run.regs = omega (arith, s.registers) in
      gives
      record {
        goes = one_step s e;
        at = ap (λ a. a + 1) s.at;
        registers = length-set m.run.regs r v;
        low = λ k lt'. let ne : k ≢ r = omega arith in get_or-set_other m.run.regs r k v 0 ne;
        length_locals = refl;
        locals = λ k lt'. refl;
        out = refl;
        frames = refl;
        own = refl;
        world = is;
        over = s.over;
      }
      (get_or-set_same m.run.regs r v 0 within) small

  -- the same with no load
  pub op_sets_plain : (m : Machine) (op : Op) (pc r v : ℕ) → StandsAt m pc op → v < 2 ^ 32 → r < 16
      → machine_step op m ≡ record { run = sets r v (made_one m.run); world = m.world }
      → Computes code m (pc + 1) r 50 (Gives [] v)
  op_sets_plain m op pc r v s small lt e = op_sets m op pc r v [] m.world s small lt e (seen_none m.world)

  -- one instruction that faults
  pub op_fails : (m : Machine) (op : Op) (pc pc' r l : ℕ) (f : Fault) → StandsAt m pc op
      → machine_step op m ≡ record { run = fails f (made_one m.run); world = m.world }
      → Computes code m pc' r l (Fails [] f)
  op_fails m op pc pc' r l f s e = stops record { goes = one_step s e; own = refl; world = seen_none m.world; over = refl }

  -- one instruction that faults unless a test holds, and changes no register
  pub op_checks : (test : Bool) (m : Machine) (op : Op) (pc r v : ℕ) (f : Fault) → StandsAt m pc op → reg m.run r ≡ v
      → v < 2 ^ 32 → machine_step op m ≡ record { run = checks test f (made_one m.run); world = m.world }
      → Computes code m (pc + 1) r 50 (if test then Gives [] v else Fails [] f)
  op_checks true m op pc r v f s is small e =
      subst (λ a. Computes code m a r 50 (Gives [] v)) (ap (λ a. a + 1) s.at)
      (moved m (m.run.pc + 1) ((m.run.made + 1) % 2 ^ 64) r v (one_step s e) s.over is small)
  op_checks false m op pc r v f s is small e = op_fails m op pc (pc + 1) r 50 f s e
