-- How a job may end so that a later one keeps its turn.
use Rattle.std.specs.Prelude.{◌≡◌, ◌≢◌, ℕ, zero, suc, ◌≤◌, List}
use Rattle.std.specs.List.{AllByRecursion}
use Rattle.plex_num.specs.declared.level.Level.{Level}
use Rattle.plex_num.specs.declared.level.Level.TheVariants.{A, B, C, D}
use Rattle.job_types.specs.declared.chain.Held.{Held}
use Rattle.job_types.specs.declared.job.Job.{Job}
use Rattle.job_types.specs.declared.job.JobStart.{JobStart}
use Rattle.job_types.specs.declared.outbox.Sent.{Sent}
use Rattle.job_types.specs.declared.outbox.SendTo.{SendTo}
use Rattle.job_types.specs.declared.outbox.SendTo.TheVariants.{Queue, Outside}
use Rattle.job_types.specs.declared.outcome.JobDone.{JobDone}
use Rattle.job_types.specs.declared.outcome.Outcome.{Outcome}
use Rattle.job_types.specs.declared.outcome.Outcome.TheVariants.{Ended, Faulted}
use Rattle.job_types.specs.Forlopps.{ChainMap}
use Rattle.job_types.specs.Own.{untouched}
use Rattle.exchange_model.specs.declared.exchange.Exchange.{Exchange}
use Rattle.source_meaning.specs.Retirement.{release_world, restart_world}

-- A goes before B, B before C and C before D
abbrev pub rank : Level → ℕ
rank A = 0
rank B = 1
rank C = 2
rank D = 3

-- what is sent joins no list above the later job's
abbrev pub GoesBehind : Level → SendTo → Type 0
GoesBehind later (Outside signal) = Unit {0}
GoesBehind later (Queue entry level fresh) = rank later ≤ rank level

-- the end of a job of this forlopp is no restart
abbrev pub GoesOn : ℕ → Outcome → Type 0
GoesOn own Ended = Unit {0}
GoesOn own (Faulted f point) = own ≢ 0

-- and no release of the later job's forlopp
abbrev pub Spares : ℕ → ℕ → Outcome → Type 0
Spares later own Ended = Unit {0}
Spares later own (Faulted f point) = (own ≢ 0) × (own ≢ later)

-- the end of the job with this start lets the later job keep its turn
pub record LetsStay (start : JobStart) (done : JobDone) (later : Job) : Type 0 where
  pub sends : AllByRecursion (λ (m : Sent). GoesBehind later.level m.to) done.sends
  pub outcome : Spares later.forlopp start.job.forlopp done.outcome

-- two forlopps that are not one, unless there is none
abbrev pub AreOther : ℕ → ℕ → Type 0
AreOther own later = own ≡ later → own ≡ 0

-- the stored words after a job of this forlopp has ended so, with this chain, while the forlopps
-- hold these chains: a release gives back what the job held, and a restart what all hold
abbrev pub words_left : Exchange → ℕ → Outcome → List Held → ChainMap → List ℕ → List ℕ
words_left x own Ended chain chains words = words
words_left x zero (Faulted f point) chain chains words =
    (restart_world x chains (untouched words)).store
words_left x (suc n) (Faulted f point) chain chains words =
    (release_world x chain (untouched words)).store
