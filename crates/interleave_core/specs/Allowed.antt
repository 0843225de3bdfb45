-- Which events are allowed in a core, and the core after one that is.
use Rattle.std.specs.Prelude.{◌≡◌, ℕ, ◌+◌, ◌<◌, List, ◌∷◌, length, slice_get, Option, Some, None}
use Rattle.std.specs.Prelude.{IsSome}
use Rattle.std.specs.List.{AllByRecursion}
use Rattle.job_types.specs.declared.job.JobStart.{JobStart}
use Rattle.machine_code.specs.Coded.{Code}
use Rattle.exchange_model.specs.declared.exchange.Exchange.{Exchange}
use Rattle.source_meaning.specs.SingleRun.{next_start}
use Rattle.run_books.specs.Accounts.{next_count}
use Rattle.pair_tests.specs.Pairs.{Passes}
use Rattle.checked.specs.Kept.{KeptSummaries}
use Rattle.interference_check.specs.Pairs.{OfPair}
use Rattle.interleave_core.specs.declared.event.CoreEvent.{CoreEvent}
use Rattle.interleave_core.specs.declared.event.CoreEvent.TheVariants.{Issue, Step, Retire}
use Rattle.interleave_core.specs.declared.window.WindowJob.{WindowJob}
use Rattle.interleave_core.specs.Cores.{Core, begun_jobs, issues, lets_go, steps}

-- the later job passes all tests with the first, by what is kept of their entries
abbrev pub MayFollow : KeptSummaries → JobStart → JobStart → Type 0
MayFollow kept first later =
    OfPair kept first.job.entry later.job.entry (λ one other. Passes one other first later)

-- so many jobs are fewer than a line waits for, if there is one
abbrev pub IsBefore : Option ℕ → ℕ → Type 0
IsBefore None jobs = Unit {0}
IsBefore (Some count) jobs = jobs < count

-- this is the next job, which the last restart lets begin; a worker is free; the limit lets one
-- more job begin; the next line does not come first; and the job passes all tests with each job of
-- the window, which come before it
pub record CanIssue (kept : KeptSummaries) (workers : ℕ) (c : Core) : Type 0 where
  pub start : JobStart
  pub picked : next_start c.state ≡ Some start
  pub worker : length c.window < workers
  pub limited : begun_jobs c < c.limit
  pub line : IsBefore (next_count c.state.lines) (begun_jobs c)
  pub follows : AllByRecursion (λ (older : WindowJob). MayFollow kept older.start start) c.window

-- the job of this number, in the order of issue from 1, stands at a place of the window, and has
-- not ended
pub record CanStep (c : Core) (number : ℕ) : Type 0 where
  pub place : ℕ
  pub job : WindowJob
  pub numbered : c.retired + place + 1 ≡ number
  pub there : slice_get c.window place ≡ Some job
  pub runs : job.run.over ≡ None

-- the oldest job of the window has ended
pub record CanRetire (c : Core) : Type 0 where
  pub oldest : WindowJob
  pub younger : List WindowJob
  pub first : c.window ≡ oldest ∷ younger
  pub over : IsSome oldest.run.over

abbrev pub IsAllowed : KeptSummaries → ℕ → Core → CoreEvent → Type 0
IsAllowed kept workers c Issue = CanIssue kept workers c
IsAllowed kept workers c (Step job) = CanStep c job
IsAllowed kept workers c Retire = CanRetire c

-- the core after an event that is allowed
abbrev pub after_event : (x : Exchange) (code : Code) (kept : KeptSummaries) (workers : ℕ)
    (c : Core) (e : CoreEvent) → IsAllowed kept workers c e → Core
after_event x code kept workers c Issue can = issues code can.start c
after_event x code kept workers c (Step job) can = steps code can.place can.job c
after_event x code kept workers c Retire can = lets_go x can.oldest can.younger c
