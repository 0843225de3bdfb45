-- Numbers of steps: one more, and those after which a job is over.
use Rattle.std.proofs.Common.{◌≡◌, ℕ, zero, suc, ◌+◌, List, Option, Some, None, refl, ap, sym, ◌∙◌}
use Rattle.job_types.specs.declared.job.JobStart.{JobStart}
use Rattle.job_types.specs.declared.outcome.Outcome.{Outcome}
use Rattle.exchange_model.specs.declared.exchange.Exchange.{Exchange}
use Rattle.job_types.specs.Own.{budget}
use Rattle.source_meaning.specs.Config.{Config}
use Rattle.source_meaning.specs.Step.{step}
use Rattle.source_meaning.specs.Job.{unless_over, begins, job, after_steps}
use Rattle.source_meaning.proofs.Budget.{over_stays, job_over}

-- two numbers of steps after which a job is over come to the same
over_same : (n m : ℕ) (x : Exchange) (c : Config) (o p : Outcome) → (after_steps n x c).over ≡ Some o
    → (after_steps m x c).over ≡ Some p → after_steps n x c ≡ after_steps m x c
unfolding after_steps
over_same zero m x c o p e f = sym (over_stays m x c o e)
over_same (suc n) zero x c o p e f = over_stays (suc n) x c p f
over_same (suc n) (suc m) x c o p e f = by c.over refl (over_same n m x (step x c) o p) e f
  where
    by : (v : Option Outcome) → c.over ≡ v → ((after_steps n x (step x c)).over ≡ Some o
        → (after_steps m x (step x c)).over ≡ Some p → after_steps n x (step x c) ≡ after_steps m x (step x c))
        → (unless_over c.over c (after_steps n x (step x c))).over ≡ Some o
        → (unless_over c.over c (after_steps m x (step x c))).over ≡ Some p
        → unless_over c.over c (after_steps n x (step x c)) ≡ unless_over c.over c (after_steps m x (step x c))
    by (Some q) is more e f = ap (λ v. unless_over v c (after_steps n x (step x c))) is ∙ sym (ap (λ v. unless_over v c (after_steps m x (step x c))) is)
    by None is more e f =
        let first : unless_over c.over c (after_steps n x (step x c)) ≡ after_steps n x (step x c) =
        ap (λ v. unless_over v c (after_steps n x (step x c))) is in
        let second : unless_over c.over c (after_steps m x (step x c)) ≡ after_steps m x (step x c) =
        ap (λ v. unless_over v c (after_steps m x (step x c))) is in
        first ∙ more (sym (ap (λ (d : Config). d.over) first) ∙ e) (sym (ap (λ (d : Config). d.over) second) ∙ f) ∙ sym second

-- a job that is over after a number of steps is what its meaning says
pub job_is : (n : ℕ) (x : Exchange) (start : JobStart) (store : List ℕ) (o : Outcome)
    → (after_steps n x (begins x start store)).over ≡ Some o
    → after_steps n x (begins x start store) ≡ job x start store
unfolding job
job_is n x start store o e =
    let last = job_over x start store in
    over_same n (budget + 1) x (begins x start store) o last.0 e last.1

-- one step more
step_after : (n : ℕ) (x : Exchange) (c : Config) (v : Option Outcome) → c.over ≡ v
    → ((after_steps n x (step x c)).over ≡ None
    → after_steps (suc n) x (step x c) ≡ step x (after_steps n x (step x c))) → (after_steps (suc n) x c).over ≡ None
    → after_steps (suc (suc n)) x c ≡ step x (after_steps (suc n) x c)
unfolding after_steps
step_after n x c (Some o) is more going =
    let stays : after_steps (suc n) x c ≡ c = ap (λ v. unless_over v c (after_steps n x (step x c))) is in
    let none : None ≡ Some o = sym going ∙ ap (λ (d : Config). d.over) stays ∙ is in
    cc
step_after n x c None is more going =
    let first : after_steps (suc (suc n)) x c ≡ after_steps (suc n) x (step x c) = ap (λ v. unless_over v c (after_steps (suc n) x (step x c))) is in
    let second : after_steps (suc n) x c ≡ after_steps n x (step x c) = ap (λ v. unless_over v c (after_steps n x (step x c))) is in
    first ∙ more (sym (ap (λ (d : Config). d.over) second) ∙ going) ∙ ap (step x) (sym second)

pub next_step : (n : ℕ) (x : Exchange) (c : Config) → (after_steps n x c).over ≡ None → after_steps (suc n) x c ≡ step x (after_steps n x c)
unfolding after_steps
next_step zero x c going = ap (λ v. unless_over v c (step x c)) going
next_step (suc n) x c going = step_after n x c c.over refl (next_step n x (step x c)) going
