-- Each step counts one item, so that the budget ends every job.
use Rattle.std.proofs.Common.{◌≡◌, ℕ, zero, suc, ◌+◌, ◌<◌, ◌≤◌, List, [], ◌∷◌, Option, Some, None}
use Rattle.std.proofs.Common.{refl, ap, ◌∙◌, arith}
use Rattle.std.proofs.lemmas.Bool.{ltb-true}
use Rattle.job_types.specs.declared.job.JobStart.{JobStart}
use Rattle.job_types.specs.declared.outcome.Outcome.{Outcome}
use Rattle.job_types.specs.Own.{budget}
use Rattle.exchange_model.specs.declared.exchange.Exchange.{Exchange}
use Rattle.source_meaning.specs.Config.{Item, Caller, Config}
use Rattle.source_meaning.specs.Changes.{ends}
use Rattle.source_meaning.specs.Deeds.{Deed}
use Rattle.source_meaning.specs.Effects.{Effect, Looks, Leave, Faults, Effects, Done, Then, Last}
use Rattle.source_meaning.specs.Effects.{Step, NothingLeft, CountFull, Counts}
use Rattle.source_meaning.specs.Step.{step}
use Rattle.source_meaning.specs.Job.{unless_over, begins, job, after_steps}
use Rattle.source_meaning.proofs.Stepping.{every_step}

-- no effect counts
effect_counts : {x : Exchange} {deed : Deed} {rest : List Item} (c d : Config) → Effect x deed rest c d → d.own.count ≡ c.own.count
effect_counts c d (Looks e loads each) = refl
effect_counts c d _ = refl

leave_counts : {x : Exchange} {deed : Deed} {rest : List Item} (c d : Config) → Leave x deed rest c d → d.own.count ≡ c.own.count
leave_counts c d (Faults e f why) = refl
leave_counts c d _ = refl

effects_count : {x : Exchange} {deed : Deed} {rest : List Item} {temps : List ℕ} (c d : Config) → Effects x deed rest temps c d → d.own.count ≡ c.own.count
effects_count c d (Done e) = refl
effects_count c d (Then a b e same effect more) = effects_count b d more ∙ effect_counts c b effect
effects_count c d (Last a b same leave) = leave_counts c d leave

-- a step that does not end the job counted one, within the budget
pub record IsCounted (c d : Config) : Type 0 where
  pub one : d.own.count ≡ c.own.count + 1
  pub below : c.own.count < budget

ends_over : (ks : List Caller) (c : Config) → (ends ks c).over ≡ None → IsCounted c (ends ks c)
ends_over [] c over = cc
ends_over (k ∷ ks) c over = cc

pub step_counts : (x : Exchange) (c d : Config) → d.over ≡ None → Step x c d → IsCounted c d
step_counts x c d over (NothingLeft none) = ends_over c.callers c over
step_counts x c d over (CountFull i rest is full) = cc
step_counts x c d over (Counts i rest e is room effects) = record { one = effects_count _ d effects; below = ltb-true c.own.count budget room }

-- a job that is over stays as it is
pub over_stays : (n : ℕ) (x : Exchange) (c : Config) (o : Outcome) → c.over ≡ Some o → after_steps n x c ≡ c
unfolding after_steps
over_stays zero x c o e = refl
over_stays (suc n) x c o e = ap (λ v. unless_over v c (after_steps n x (step x c))) e

steps_end : (n : ℕ) (x : Exchange) (c : Config) → c.over ≡ None → c.own.count ≤ budget → budget < c.own.count + n
    → (o : Outcome) × ((after_steps n x c).over ≡ Some o)
unfolding after_steps
steps_end zero x c going le lt = absurd (omega arith)
steps_end (suc n) x c going le lt = after (λ e le lt. steps_end n x (step x c) e le lt) (step x c).over refl
  where
    after : ((step x c).over ≡ None → (step x c).own.count ≤ budget → budget < (step x c).own.count + n
        → (o : Outcome) × ((after_steps n x (step x c)).over ≡ Some o)) → (v : Option Outcome) → (step x c).over ≡ v
        → (o : Outcome) × ((unless_over c.over c (after_steps n x (step x c))).over ≡ Some o)
    after more (Some o) e = (
      o,
      ap (λ v. (unless_over v c (after_steps n x (step x c))).over) going
          ∙ ap (λ (d : Config). d.over) (over_stays n x (step x c) o e) ∙ e,
    )
    after more None e =
        let k = step_counts x c (step x c) e (every_step x c) in
        let r = more e (omega (arith, k.one, k.below)) (omega (arith, k.one, k.below)) in
        (r.0, ap (λ v. (unless_over v c (after_steps n x (step x c))).over) going ∙ r.1)

-- a job is over
pub job_over : (x : Exchange) (start : JobStart) (store : List ℕ) → (o : Outcome) × ((job x start store).over ≡ Some o)
unfolding job
job_over x start store = steps_end (budget + 1) x (begins x start store) refl (omega arith) (omega arith)
