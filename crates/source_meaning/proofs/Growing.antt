-- The trace of a job grows, and tells its store.
use Rattle.std.proofs.Common.{◌≡◌, ℕ, ◌+◌, List, [], ◌∷◌, ◌++◌, refl, sym, ap, ◌∙◌, subst}
use Rattle.std.proofs.Common.{append_assoc}
use Rattle.std.proofs.lemmas.List.{append-nil}
use Rattle.std.specs.Prelude.{slice_set}
use Rattle.std.specs.List.{AllByRecursion}
use Rattle.job_types.specs.declared.job.JobStart.{JobStart}
use Rattle.job_types.specs.declared.touch.Touch.{Touch}
use Rattle.job_types.specs.declared.touch.Touch.TheVariants.{Load, Store}
use Rattle.job_types.specs.Own.{World, seen, writes, budget}
use Rattle.job_types.specs.Touches.{stored}
use Rattle.job_types.proofs.Touched.{stored-append}
use Rattle.exchange_model.specs.declared.exchange.Exchange.{Exchange}
use Rattle.exchange_model.specs.declared.block.Variable.{Variable}
use Rattle.exchange_model.specs.Cells.{Placed, field_cell, mark_cell}
use Rattle.source_meaning.specs.Config.{Item, Caller, Config}
use Rattle.source_meaning.specs.Changes.{ends, opens_fields, opens_record}
use Rattle.source_meaning.specs.Deeds.{Deed, IsLook}
use Rattle.source_meaning.specs.Effects.{Effect, Looks, PutsVariable, PutsField, Seizes, Frees}
use Rattle.source_meaning.specs.Effects.{Goes, Posts, Leave, Faults, Effects, Done, Then, Last}
use Rattle.source_meaning.specs.Effects.{Step, NothingLeft, CountFull, Counts}
use Rattle.source_meaning.specs.Step.{step}
use Rattle.source_meaning.specs.Value.{load_of}
use Rattle.source_meaning.specs.Job.{begins, job, after_steps}
use Rattle.source_meaning.specs.Traces.{Answers, Grows}
use Rattle.source_meaning.proofs.Stepping.{every_step}
use Rattle.source_meaning.proofs.Keeping.{Kept, steps_keep}

-- a list is answered where its front is, and the rest by what the front leaves
pub answers_append : (a b : List Touch) (vs : List ℕ) → Answers vs a → Answers (stored vs a) b → Answers vs (a ++ b)
answers_append [] b vs here later = later
answers_append (Load w v ∷ a) b vs here later = (here.0, answers_append a b vs here.1 later)
answers_append (Store w v ∷ a) b vs here later = answers_append a b (slice_set vs w v) here later

pub grows_same : (w : World) → Grows w w
grows_same w = record { touches = []; trace = sym (append-nil w.trace); store = refl; told = tt }

pub grows_on : (u v w : World) → Grows u v → Grows v w → Grows u w
grows_on u v w first more = record {
  touches = first.touches ++ more.touches;
  trace = more.trace ∙ ap (λ t. t ++ more.touches) first.trace ∙ append_assoc u.trace first.touches more.touches;
  store = more.store ∙ ap (λ s. stored s more.touches) first.store ∙ sym (stored-append first.touches more.touches u.store);
  told = answers_append first.touches more.touches u.store first.told (subst (λ s. Answers s more.touches) first.store more.told);
}

pub grows_writes : (cell v : ℕ) (w : World) → Grows w (writes cell v w)
grows_writes cell v w = record { touches = Store cell v ∷ []; trace = refl; store = refl; told = tt }

-- loads of what stands there
pub record IsLoad (store : List ℕ) (t : Touch) : Type 0 where
  pub cell : ℕ
  pub is : t ≡ load_of store cell

loads_leave : (store : List ℕ) (loads : List Touch) → AllByRecursion (IsLoad store) loads → (stored store loads ≡ store) × Answers store loads
loads_leave store [] each = (refl, tt)
loads_leave store (t ∷ loads) each =
    let rest = loads_leave store loads each.1 in
    subst (λ u. (stored store (u ∷ loads) ≡ store) × Answers store (u ∷ loads)) (sym each.0.is) (rest.0, (refl, rest.1))

pub grows_seen : (loads : List Touch) (w : World) → AllByRecursion (IsLoad w.store) loads → Grows w (seen loads w)
grows_seen loads w each =
    let leave = loads_leave w.store loads each in
    record { touches = loads; trace = refl; store = sym leave.0; told = leave.1 }

grows_fields : (p : Placed) (number field : ℕ) (fields : List Variable) (w : World) → Grows w (opens_fields p number field fields w)
grows_fields p number field [] w = grows_same w
grows_fields p number field (v ∷ rest) w =
    let u = writes (field_cell p number field) v.init w in
    grows_on w u (opens_fields p number (field + 1) rest u) (grows_writes (field_cell p number field) v.init w) (grows_fields p number (field + 1) rest u)

pub grows_opens : (p : Placed) (number : ℕ) (w : World) → Grows w (opens_record p number w)
grows_opens p number w =
    let u = opens_fields p number 0 p.file.fields w in
    grows_on w u (writes (mark_cell p number) 0 u) (grows_fields p number 0 p.file.fields w) (grows_writes (mark_cell p number) 0 u)

looks_load : (x : Exchange) (c : Config) (deed : Deed) (loads : List Touch) → AllByRecursion (IsLook x c deed) loads
    → AllByRecursion (IsLoad c.world.store) loads
looks_load x c deed [] each = tt
looks_load x c deed (t ∷ loads) each = (record { cell = each.0.cell; is = each.0.is }, looks_load x c deed loads each.1)

pub effect_grows : {x : Exchange} {deed : Deed} {rest : List Item} (c d : Config) → Effect x deed rest c d → Grows c.world d.world
effect_grows {x} {deed} c d (Looks e loads each) = grows_seen loads c.world (looks_load x c deed loads each)
effect_grows c d (PutsVariable e p variable expr v is at fits) = grows_writes _ v c.world
effect_grows c d (PutsField e p file field pointer expr v placed is may at fits) = grows_writes _ v c.world
effect_grows c d (Seizes e p temp file label number placed is record_of some room free) = grows_writes (mark_cell placed number) 1 c.world
effect_grows c d (Frees e p temp file placed is may) = grows_opens placed _ c.world
effect_grows c d (Goes e todo temps on) = grows_same c.world
effect_grows c d (Posts e to vs is room) = grows_same c.world

pub leave_grows : {x : Exchange} {deed : Deed} {rest : List Item} (c d : Config) → Leave x deed rest c d → Grows c.world d.world
leave_grows c d (Faults e f why) = grows_same c.world
leave_grows c d _ = grows_same c.world

pub effects_grow : {x : Exchange} {deed : Deed} {rest : List Item} {temps : List ℕ} (c d : Config) → Effects x deed rest temps c d → Grows c.world d.world
effects_grow c d (Done e) = grows_same c.world
effects_grow c d (Then a b e same effect more) = grows_on c.world b.world d.world (effect_grows c b effect) (effects_grow b d more)
effects_grow c d (Last a b same leave) = leave_grows c d leave

ends_grows : (ks : List Caller) (c : Config) → Grows c.world (ends ks c).world
ends_grows [] c = grows_same c.world
ends_grows (k ∷ ks) c = grows_same c.world

-- all that comes after a world has grown from it
pub grown : (x : Exchange) (w : World) → Kept x (λ c. Grows w c.world) (λ b deed rest. Unit {0})
grown x w = record {
  context = λ c i rest p going is. tt;
  counting = λ deed rest c here g. g;
  effect = λ deed rest c d here g e. grows_on w c.world d.world g (effect_grows c d e);
  leave = λ deed rest c d here g e. grows_on w c.world d.world g (leave_grows c d e);
  ending = λ c g. grows_on w c.world (ends c.callers c).world g (ends_grows c.callers c);
  full = λ c g. g;
}

pub steps_grow : (n : ℕ) (x : Exchange) (c : Config) → Grows c.world (after_steps n x c).world
steps_grow n x c = steps_keep (grown x c.world) n c (grows_same c.world)

-- a job's store is the one at its start with the stores of its trace, and each load found what
-- stood there
pub job_store : (x : Exchange) (start : JobStart) (store : List ℕ) → (job x start store).world.store ≡ stored store (job x start store).world.trace
unfolding job
job_store x start store = let g = steps_grow (budget + 1) x (begins x start store) in g.store ∙ ap (stored store) (sym g.trace)

pub job_told : (x : Exchange) (start : JobStart) (store : List ℕ) → Answers store (job x start store).world.trace
unfolding job
job_told x start store = let g = steps_grow (budget + 1) x (begins x start store) in subst (Answers store) (sym g.trace) g.told

-- a step that is made of effects
step_from : {x : Exchange} (c d : Config) → Step x c d → Grows c.world d.world
step_from c d (NothingLeft none) = ends_grows c.callers c
step_from c d (CountFull i rest is full) = grows_same c.world
step_from c d (Counts i rest e is room effects) = effects_grow _ d effects

pub step_grows : (x : Exchange) (c : Config) → Grows c.world (step x c).world
step_grows x c = step_from c (step x c) (every_step x c)
