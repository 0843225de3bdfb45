-- A job without a forlopp, and one that ended of itself.
use Rattle.std.proofs.Common.{◌≡◌, ℕ, zero, suc, Bool, List, sym, subst, arith}
use Rattle.exchange_model.specs.declared.exchange.Exchange.{Exchange}
use Rattle.job_types.specs.declared.job.JobStart.{JobStart}
use Rattle.job_types.specs.declared.outcome.JobDone.{JobDone}
use Rattle.job_types.specs.declared.outcome.Outcome.{Outcome}
use Rattle.job_types.specs.declared.outcome.Outcome.TheVariants.{Ended}
use Rattle.job_types.specs.Own.{untouched}
use Rattle.source_meaning.specs.Retirement.{with_sends}
use Rattle.source_meaning.specs.State.{State}
use Rattle.source_meaning.specs.Valid.{MayBe}
use Rattle.run_books.specs.Retired.{outcome_world, retired_world}
use Rattle.run_books.specs.Stores.{MayStore}

pub may_none : (s : State) (f : ℕ) → f ≡ 0 → MayBe s f
may_none s zero none = tt
may_none s (suc n) none = absurd (omega (arith, none))

pub nothing_stored : (x : Exchange) (start : JobStart) (done : JobDone) (s : State) (ws : List ℕ) (may : ℕ → Bool)
    → done.outcome ≡ Ended → MayStore may (retired_world x start done s ws).trace
nothing_stored x start done s ws may is = subst
    (λ (o : Outcome). MayStore may (outcome_world x start.job.forlopp o (with_sends start done s) (untouched ws)).trace)
    (sym is) tt
