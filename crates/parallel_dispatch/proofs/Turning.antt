-- Concatenation of lists of events; and the events by which the oldest job runs to its end and
-- retires.
use Rattle.std.proofs.Common.{◌≡◌, ℕ, suc, ◌+◌, ◌%◌, ◌^◌, List, [], ◌∷◌, ◌++◌, Some, refl, sym, ap}
use Rattle.std.proofs.Common.{◌∙◌, subst, slice_get, arith}
use Rattle.std.proofs.lemmas.Option.{get_or_from_slice_get}
use Rattle.job_types.specs.declared.job.JobStart.{JobStart}
use Rattle.machine_code.specs.declared.op.Op.{Op}
use Rattle.machine_code.specs.declared.op.Op.TheVariants.{End}
use Rattle.machine_meaning.specs.Faithful.{Ends, begun, started}
use Rattle.machine_meaning.specs.Machine.{Goes, Machine, by_op, here, machine_step, reach}
use Rattle.machine_meaning.specs.Machine.{untouched}
use Rattle.job_run.proofs.Stopping.{step_store}
use Rattle.interleave_core.specs.declared.event.CoreEvent.{CoreEvent}
use Rattle.interleave_core.specs.declared.event.CoreEvent.TheVariants.{Retire}
use Rattle.interleave_core.specs.declared.window.WindowJob.{WindowJob}
use Rattle.interleave_core.specs.Allowed.{CanRetire}
use Rattle.interleave_core.specs.Cores.{Core, lets_go, steps}
use Rattle.interleave_core.specs.Runs.{Allows, Runs, Setting, core_after}
use Rattle.parallel_dispatch.specs.Turning.{at_machine, so_many_steps, turn_of}
use Rattle.parallel_dispatch.proofs.Counting.{step_made}

-- ## Concatenation of lists

pub runs_append : (k : Setting) (es fs : List CoreEvent) (c m d : Core) → Runs k es c m → Runs k fs m d → Runs k (es ++ fs) c d
unfolding Runs
runs_append k [] fs c m d is more = subst (λ (o : Core). Runs k fs o d) is more
runs_append k (e ∷ es) fs c m d runs more = (runs.0, runs_append k es fs (core_after k c e runs.0) m d runs.1 more)

-- a single event
pub runs_one : (k : Setting) (c : Core) (e : CoreEvent) (can : Allows k c e) → Runs k (e ∷ []) c (core_after k c e can)
unfolding Runs
runs_one k c e can = (can, refl)

-- ## Steps of the oldest job

-- the state of the core after the instruction
stepped_core : (k : Setting) (c : Core) (start : JobStart) (younger : List WindowJob) (op : Op) (m : Machine) → slice_get k.code.ops m.run.pc ≡ Some op
    → steps k.code 0 (record { start = start; run = m.run }) (at_machine c start younger m) ≡ at_machine c start younger (machine_step op m)
stepped_core k c start younger op m at =
    let is = get_or_from_slice_get k.code.ops m.run.pc op End at in
    ap (λ (o : Op). at_machine c start younger (machine_step o (record { run = m.run; world = untouched m.world.store }))) is
    ∙ ap (λ ws. at_machine c start younger (record { run = (machine_step op m).run; world = untouched ws })) (step_store (reach op m.run) m.world)

-- this many Step events run the machine to its end, in every state of the core in which the job is
-- the oldest, and count as many instructions
pub record GoesBySteps (k : Setting) (m end : Machine) : Type 0 where
  pub count : ℕ
  pub made : (n : ℕ) → m.run.made ≡ n % 2 ^ 64 → end.run.made ≡ (n + count) % 2 ^ 64
  pub runs : (c : Core) (start : JobStart) (younger : List WindowJob)
      → Runs k (so_many_steps count (c.retired + 1)) (at_machine c start younger m) (at_machine c start younger end)

pub goes_by_steps : (k : Setting) (m end : Machine) → Goes k.code.ops m end → GoesBySteps k m end
unfolding Runs
goes_by_steps k m end here = record {
  count = 0;
  made = λ n is. (let none : n ≡ n + 0 = omega arith in is ∙ ap (λ a. a % 2 ^ 64) none);
  runs = λ c start younger. refl;
}
goes_by_steps k m end (by_op op running at allowed more) =
    let rest = goes_by_steps k (machine_step op m) end more in
    record {
      count = suc rest.count;
      made = λ n is. (let more : n + 1 + rest.count ≡ n + suc rest.count = omega arith in rest.made (n + 1) (step_made op m n is) ∙ ap (λ a. a % 2 ^ 64) more);
      runs = λ c start younger. (
        record { place = 0; job = record { start = start; run = m.run }; numbered = omega arith; there = refl; runs = running },
        subst (λ (d : Core). Runs k (so_many_steps rest.count (c.retired + 1)) d (at_machine c start younger end))
            (sym (stepped_core k c start younger op m at)) (rest.runs c start younger),
      );
    }

-- ## The oldest job runs to its end and retires

-- from every state of the core with these words in which the oldest job is at this start, these
-- events lead to the state in which it has run to this end and retired; `count` of them are
-- instructions
pub record HasTurn (k : Setting) (start : JobStart) (words : List ℕ) (end : Machine) : Type 0 where
  pub count : ℕ
  pub made : end.run.made ≡ count % 2 ^ 64
  pub runs : (c : Core) (younger : List WindowJob) → c.window ≡ record { start = start; run = started k.code start } ∷ younger → c.state.store ≡ words
      → Runs k (turn_of count (c.retired + 1)) c (lets_go k.exchange (record { start = start; run = end.run }) younger (at_machine c start younger end))

pub has_turn : (k : Setting) (start : JobStart) (words : List ℕ) (end : Machine)
    → Ends k.code.ops (begun (started k.code start) words) end → HasTurn k start words end
has_turn k start words end ends =
    let first = begun (started k.code start) words in
    let steps = goes_by_steps k first end ends.goes in
    record {
      count = steps.count;
      made = (let all : 0 + steps.count ≡ steps.count = omega arith in steps.made 0 refl ∙ ap (λ n. n % 2 ^ 64) all);
      runs = λ c younger is store.
          let here : c ≡ at_machine c start younger first = λ i. record c { state = record c.state { store = store i }; window = is i } in
          let there = at_machine c start younger end in
          let can : CanRetire there = record { oldest = record { start = start; run = end.run }; younger = younger; first = refl; over = ends.over } in
          runs_append k (so_many_steps steps.count (c.retired + 1)) (Retire ∷ []) c there
          (lets_go k.exchange (record { start = start; run = end.run }) younger there)
          (subst (λ (o : Core). Runs k (so_many_steps steps.count (c.retired + 1)) o there) (sym here) (steps.runs c start younger))
          (runs_one k there Retire can);
    }
