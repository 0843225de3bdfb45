-- Step after step, until the job is over.
use Rattle.std.proofs.Common.{◌≡◌, ℕ, suc, ◌+◌, ◌-◌, ◌<◌, List, [], Ok, Err, refl, ap, sym, ◌∙◌}
use Rattle.std.proofs.Common.{subst, arith}
use Rattle.job_types.specs.declared.fault.Fault.{Fault}
use Rattle.job_types.specs.declared.job.JobStart.{JobStart}
use Rattle.job_types.specs.declared.outcome.Outcome.{Outcome}
use Rattle.job_types.specs.declared.outcome.Outcome.TheVariants.{Ended, Faulted}
use Rattle.job_types.specs.declared.touch.Touch.{Touch}
use Rattle.exchange_model.specs.declared.exchange.Exchange.{Exchange}
use Rattle.job_types.specs.Own.{budget}
use Rattle.source_meaning.specs.Config.{Config}
use Rattle.source_meaning.specs.Step.{step}
use Rattle.source_meaning.specs.Job.{begins, job, after_steps}
use Rattle.source_interpreter.specs.Running.{Running, config_of, at_start}
use Rattle.source_interpreter.specs.Leaves.{IsConfigOf, IsOver, Steps, RunsTo, IsReached}
use Rattle.source_interpreter.specs.declared.stop.Stop.TheVariants as stop
use Rattle.source_interpreter.proofs.Follow.{Answer}
use Rattle.source_meaning.proofs.Budget.{IsCounted, step_counts}
use Rattle.source_meaning.proofs.Stepping.{every_step}
use Rattle.source_interpreter.proofs.Counting.{job_is, next_step}

-- a step after which the job goes on counted one, within the budget
pub record OneMore (r r' : Running) : Type 0 where
  pub one : r'.own.count ≡ r.own.count + 1
  pub below : r.own.count < budget

one_more : (r r' : Running) (s s' : List ℕ) → Steps r s (Ok tt) r' s' → OneMore r r'
one_more r r' s s' made =
    let c : Config = config_of r s [] in
    let d : Config = step r.exchange c in
    let after : IsConfigOf r.exchange d r' s' = made.leaves [] in
    let counts : IsCounted c d = step_counts r.exchange c d (ap (λ (e : Config). e.over) after.config) (every_step r.exchange c) in
    record { one = sym (ap (λ (e : Config). e.own.count) after.config) ∙ counts.one; below = counts.below }

pub step_smaller : (r r' : Running) (s s' : List ℕ) (o : Answer) → o ≡ Ok tt → Steps r s o r' s' → budget - r'.own.count < budget - r.own.count
step_smaller r r' s s' o is made =
    let more : OneMore r r' = one_more r r' s s' (subst (λ a. Steps r s a r' s') is made) in
    omega (arith, more.one, more.below)

-- the job has come so far from one before it
pub record IsLater (r0 : Running) (s0 : List ℕ) (r : Running) (s : List ℕ) : Type 0 where
  pub steps : ℕ
  pub trace : List Touch
  pub exchange : r.exchange ≡ r0.exchange
  pub there : after_steps steps r0.exchange (config_of r0 s0 []) ≡ config_of r s trace

pub later_begin : (r : Running) (s : List ℕ) → IsLater r s r s
unfolding after_steps
later_begin r s = record { steps = 0; trace = []; exchange = refl; there = refl }

-- the next step
next : (r0 r : Running) (s0 s : List ℕ) (later : IsLater r0 s0 r s)
    → after_steps (suc later.steps) r0.exchange (config_of r0 s0 []) ≡ step r.exchange (config_of r s later.trace)
next r0 r s0 s later =
    next_step later.steps r0.exchange (config_of r0 s0 []) (ap (λ (c : Config). c.over) later.there)
    ∙ ap (step r0.exchange) later.there
    ∙ ap (λ x. step x (config_of r s later.trace)) (sym later.exchange)

pub later_step : (r0 r r' : Running) (s0 s s' : List ℕ) (o : Answer) → o ≡ Ok tt → Steps r s o r' s' → IsLater r0 s0 r s → IsLater r0 s0 r' s'
later_step r0 r r' s0 s s' o is made later =
    let d : Config = step r.exchange (config_of r s later.trace) in
    let went : Steps r s (Ok tt) r' s' = subst (λ a. Steps r s a r' s') is made in
    let after : IsConfigOf r.exchange d r' s' = went.leaves later.trace in
    record {
      steps = suc later.steps;
      trace = d.world.trace;
      exchange = after.exchange ∙ later.exchange;
      there = next r0 r s0 s later ∙ after.config;
    }

-- the last step
over_now : (r0 r r' : Running) (s0 s s' : List ℕ) (o : Outcome) (later : IsLater r0 s0 r s)
    → IsOver (step r.exchange (config_of r s later.trace)) o r' s' → RunsTo r0 s0 o r' s'
over_now r0 r r' s0 s s' o later over = record {
  steps = suc later.steps;
  over = subst (λ d. IsOver d o r' s') (sym (next r0 r s0 s later)) over;
}

pub later_ended : (r0 r r' : Running) (s0 s s' : List ℕ) (o : Answer) → o ≡ Err stop.Ended → Steps r s o r' s' → IsLater r0 s0 r s → RunsTo r0 s0 Ended r' s'
later_ended r0 r r' s0 s s' o is made later =
    let ended : Steps r s (Err stop.Ended) r' s' = subst (λ a. Steps r s a r' s') is made in
    over_now r0 r r' s0 s s' Ended later (ended.leaves later.trace)

pub later_faulted : (r0 r r' : Running) (s0 s s' : List ℕ) (o : Answer) (f : Fault) (point : ℕ) → o ≡ Err (stop.Fault f)
    → Steps r s o r' s' → point ≡ r'.own.point → IsLater r0 s0 r s → RunsTo r0 s0 (Faulted f point) r' s'
later_faulted r0 r r' s0 s s' o f point is made at later =
    let faulted : Steps r s (Err (stop.Fault f)) r' s' = subst (λ a. Steps r s a r' s') is made in
    let runs : RunsTo r0 s0 (Faulted f r'.own.point) r' s' = over_now r0 r r' s0 s s' (Faulted f r'.own.point) later (faulted.leaves later.trace) in
    subst (λ p. RunsTo r0 s0 (Faulted f p) r' s') (sym at) runs

-- a step for which there was no memory wrote nothing
pub later_memory : (r0 r r' : Running) (s0 s s' : List ℕ) (o : Answer) → o ≡ Err stop.Memory → Steps r s o r' s'
    → IsLater r0 s0 r s → IsReached r0.exchange (config_of r0 s0 []) s'
later_memory r0 r r' s0 s s' o is made later =
    let wanted : Steps r s (Err stop.Memory) r' s' = subst (λ a. Steps r s a r' s') is made in
    let same : s' ≡ s = wanted.leaves later.trace in
    (later.steps, ap (λ (c : Config). c.world.store) later.there ∙ sym same)

-- a job that ran from its start is over as its meaning is
pub job_ends : (x : Exchange) (start : JobStart) (r r' : Running) (s s' : List ℕ) (o : Outcome) → r ≡ at_start x start
    → RunsTo r s o r' s' → IsOver (job x start s) o r' s'
job_ends x start r r' s s' o is runs =
    let there : RunsTo (at_start x start) s o r' s' = subst (λ q. RunsTo q s o r' s') is runs in
    subst (λ d. IsOver d o r' s') (job_is there.steps x start s o there.over.over) there.over

-- a job for which there was no memory, at its start or on its way
pub job_not_begun : (x : Exchange) (start : JobStart) (s s' : List ℕ) → s' ≡ s → IsReached x (begins x start s) s'
unfolding after_steps
job_not_begun x start s s' same = (0, sym same)

pub job_stops : (x : Exchange) (start : JobStart) (r : Running) (s s' : List ℕ) → r ≡ at_start x start
    → IsReached r.exchange (config_of r s []) s' → IsReached x (begins x start s) s'
job_stops x start r s s' is stops = subst (λ (q : Running). IsReached q.exchange (config_of q s []) s') is stops

-- what a step leads to
pub ruleset laters = (step_smaller, later_begin, later_step, later_ended, later_faulted, later_memory)
