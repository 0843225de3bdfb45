-- The machine has what the job has, and follows it.
use Rattle.std.proofs.Common.{◌≡◌, ◌≢◌, ℕ, zero, suc, ◌^◌, ◌<◌, ◌≤◌, List, [], ◌∷◌, ◌++◌, length}
use Rattle.std.proofs.Common.{replicate, Some, None, refl, sym, ap, ◌∙◌, subst, arith, ⊎_elim}
use Rattle.std.specs.Prelude.{slice_get, slice_index, slice_set}
use Rattle.std.proofs.Math.ListN.{length-set}
use Rattle.std.proofs.lemmas.List.{get_or-set_other, get_or-set_same}
use Rattle.std.proofs.lemmas.Bool.{cases_eq}
use Rattle.plex_num.proofs.Lists.{index_zeros}
use Rattle.job_types.specs.declared.fault.Fault.{Fault}
use Rattle.job_types.specs.declared.outcome.Outcome.{Outcome}
use Rattle.job_types.specs.declared.outcome.Outcome.TheVariants.{Faulted}
use Rattle.machine_code.specs.declared.op.Op.{Op}
use Rattle.source_meaning.specs.Config.{Caller, Config}
use Rattle.source_meaning.specs.Changes.{fails as c_fails}
use Rattle.machine_meaning.specs.declared.frame.Frame.{Frame}
use Rattle.machine_meaning.specs.Machine.{Machine, Goes, here, by_op, HasRoom, machine_step}
use Rattle.machine_meaning.specs.Machine.{made_one, fails}
use Rattle.expr_code.proofs.Runs.{goes_on}
use Rattle.expr_code.specs.Runs.{HasOp}
use Rattle.stmt_code.proofs.Setting.{Setting}
use Rattle.stmt_code.proofs.At.{At, AtHead}

-- every value is below 2^32
abbrev pub AllSmall : List ℕ → Type 0
AllSmall l = (i : ℕ) → slice_index l i < 2 ^ 32

-- the first locals are the temporaries
pub record Temps (temps locals : List ℕ) : Type 0 where
  pub same : (t : ℕ) → t < 24 → slice_index locals t ≡ slice_index temps t
  pub size : length temps ≡ 24
  pub wide : length locals ≡ 50
  pub small : AllSmall temps

-- a caller waits in the job and in the machine
pub record Wait (g : Setting) (k : Caller) (f : Frame) : Type 0 where
  pub depth : ℕ
  pub at : At g k.block f.locals depth k.todo f.back
  pub temps : Temps k.temps f.locals
  pub small_given : AllSmall k.given
  pub given : f.given ≡ k.given
  pub awaits : f.awaits ≡ k.awaits

abbrev pub Waits : Setting → List Caller → List Frame → Type 0
Waits g [] [] = Unit {0}
Waits g [] (f ∷ fs) = ⊥
Waits g (k ∷ ks) [] = ⊥
Waits g (k ∷ ks) (f ∷ fs) = Wait g k f × Waits g ks fs

-- the machine has what the job has, and these are the outgoing values
pub record Same (g : Setting) (vs : List ℕ) (c : Config) (m : Machine) : Type 0 where
  pub own : m.run.own ≡ c.own
  pub world : m.world ≡ c.world
  pub temps : Temps c.temps m.run.locals
  pub regs : length m.run.regs ≡ 16
  pub small_store : AllSmall c.world.store
  pub small_given : AllSmall c.own.given
  pub small_answers : AllSmall c.own.answers
  pub callers : Waits g c.callers m.run.frames
  pub out : m.run.out ≡ vs
  pub small_out : AllSmall vs
  pub runs : m.run.over ≡ None
  pub going : c.over ≡ None

-- the machine stands where the job goes on, or at the head of a loop of which a turn begins, or
-- both are over
pub data Sim (g : Setting) (c : Config) (m : Machine) : Type 0 where
  alive : {d : ℕ} → Same g [] c m → At g c.block m.run.locals d c.todo m.run.pc → Sim g c m
  heads : Same g [] c m → AtHead g c.block m.run.regs m.run.locals c.todo m.run.pc → Sim g c m
  ended : {o : Outcome} → c.over ≡ Some o → m.run.over ≡ Some o → m.run.own ≡ c.own → m.world ≡ c.world → Sim g c m

-- the machine comes to a state
pub record Comes (g : Setting) (P : Machine → Type 0) (m : Machine) : Type 0 where
  pub end : Machine
  pub goes : Goes g.code m end
  pub is : P end

abbrev pub Follows : Setting → Config → Machine → Type 0
Follows g c m = Comes g (Sim g c) m

pub by_way : {g : Setting} {P : Machine → Type 0} {m n : Machine} → Goes g.code m n → Comes g P n → Comes g P m
by_way way f = record { end = f.end; goes = goes_on way f.goes; is = f.is }

-- one instruction
pub by_step : {g : Setting} {P : Machine → Type 0} {m : Machine} {a : ℕ} (i : Op) (n : Machine) → m.run.over ≡ None
    → m.run.pc ≡ a → HasOp g.code a i → HasRoom i m.run → machine_step i m ≡ n → Comes g P n → Comes g P m
by_step {g = g} i n runs at has room e f = by_way
    (by_op i runs (ap (slice_get g.code) at ∙ has.is) (has.fits, room) (subst (λ k. Goes g.code k n) (sym e) here)) f

pub stays : {g : Setting} {c : Config} {m : Machine} {d : ℕ} → Same g [] c m → At g c.block m.run.locals d c.todo m.run.pc → Follows g c m
stays same at = record { end = _; goes = here; is = alive same at }

pub is_over : {g : Setting} {c : Config} {m : Machine} {o : Outcome} → c.over ≡ Some o → m.run.over ≡ Some o
    → m.run.own ≡ c.own → m.world ≡ c.world → Follows g c m
is_over e f w v = record { end = _; goes = here; is = ended e f w v }

-- an instruction that ends the job by a fault
pub faults : {g : Setting} {vs : List ℕ} {c : Config} {m : Machine} {a : ℕ} (i : Op) (f : Fault) → Same g vs c m
    → m.run.pc ≡ a → HasOp g.code a i → HasRoom i m.run
    → machine_step i m ≡ record { run = fails f (made_one m.run); world = m.world } → Follows g (c_fails f c) m
faults {m = m} i f s at has room e =
    by_step i (record { run = fails f (made_one m.run); world = m.world }) s.runs at has room e
    (is_over refl (ap (λ o. Some (Faulted f o.point)) s.own) s.own s.world)

-- a write keeps the values below a bound
pub set_small : (l : List ℕ) (t v : ℕ) → v < 2 ^ 32 → AllSmall l → AllSmall (slice_set l t v)
set_small [] t v lt h i = h i
set_small (y ∷ l) zero v lt h zero = lt
set_small (y ∷ l) zero v lt h (suc i) = h (suc i)
set_small (y ∷ l) (suc t) v lt h zero = h zero
set_small (y ∷ l) (suc t) v lt h (suc i) = set_small l t v lt (λ j. h (suc j)) i

pub append_small : (l k : List ℕ) → AllSmall l → AllSmall k → AllSmall (l ++ k)
append_small [] k h h' i = h' i
append_small (y ∷ l) k h h' zero = h zero
append_small (y ∷ l) k h h' (suc i) = append_small l k (λ j. h (suc j)) h' i

pub none_small : AllSmall []
none_small i = omega arith

pub one_small : (v : ℕ) → v < 2 ^ 32 → AllSmall (v ∷ [])
one_small v lt zero = lt
one_small v lt (suc i) = none_small i

pub zeros_small : (n : ℕ) → AllSmall (replicate n 0)
zeros_small n i = subst (λ v. v < 2 ^ 32) (sym (index_zeros n i)) (omega arith)

pub zeros_length : (n : ℕ) → length {A = ℕ} (replicate n 0) ≡ n
zeros_length zero = refl
zeros_length (suc n) = ap suc (zeros_length n)

-- the temporaries of a new activation
pub blank_temps : Temps (replicate 24 0) (replicate 50 0)
blank_temps = record { same = λ t lt. index_zeros 50 t ∙ sym (index_zeros 24 t); size = zeros_length 24; wide = zeros_length 50; small = zeros_small 24 }

-- a temporary is written
pub temps_set : {temps locals : List ℕ} (t v : ℕ) → t < 24 → v < 2 ^ 32 → Temps temps locals → Temps (slice_set temps t v) (slice_set locals t v)
temps_set {temps = temps} {locals = locals} t v lt small h = record {
  same = λ i low.
      ⊎_elim
      (λ (e : i ≡ t). subst (λ j. slice_index (slice_set locals t v) j ≡ slice_index (slice_set temps t v) j) (sym e)
      (get_or-set_same locals t v 0 (omega (arith, h.wide))
      ∙ sym (get_or-set_same temps t v 0 (omega (arith, h.size)))))
      (λ (ne : i ≢ t). get_or-set_other locals t i v 0 ne ∙ h.same i low ∙ sym (get_or-set_other temps t i v 0 ne))
      (cases_eq i t);
  size = length-set temps t v ∙ h.size;
  wide = length-set locals t v ∙ h.wide;
  small = set_small temps t v small h.small;
}

-- another local is written
pub temps_keep : {temps locals : List ℕ} (i v : ℕ) → 24 ≤ i → Temps temps locals → Temps temps (slice_set locals i v)
temps_keep {locals = locals} i v le h = record {
  same = λ t lt. let ne : t ≢ i = omega arith in get_or-set_other locals i t v 0 ne ∙ h.same t lt;
  size = h.size;
  wide = length-set locals i v ∙ h.wide;
  small = h.small;
}
