-- How far a run comes that may rest before its end.
use Rattle.std.specs.Prelude.{◌≡◌, ℕ, List}
use Rattle.exchange_model.specs.declared.exchange.Exchange.{Exchange}
use Rattle.job_types.specs.declared.job.JobStart.{JobStart}
use Rattle.job_types.specs.declared.outcome.JobDone.{JobDone}
use Rattle.source_meaning.specs.SingleRun.{Ending, jobs_at_end}
use Rattle.source_meaning.specs.State.{State}
use Rattle.exchange_run.specs.declared.turns.Come.{Come}
use Rattle.exchange_run.specs.declared.turns.Come.TheVariants.{Among, Over}
use Rattle.exchange_run.specs.declared.turns.Standing.{Standing}
use Rattle.exchange_run.specs.Runs.{IsEndOf, MayGoOn, RunsTo, state_of, told_of}

-- books and words stand on the way of the single run from this state: it may go on with them, and
-- what the single run from there comes to is what it comes to from this state
pub record IsOnTheWay (x : Exchange) (first : State) (limit : ℕ) (run : Standing) : Type 0 where
  pub limited : run.books.limit ≡ limit
  pub may : MayGoOn x run
  pub leads : (s : State) (words : List ℕ) (e : Ending)
      → RunsTo x (state_of run) run.books.limit s words e → RunsTo x first limit s words e

-- a run from this state has come to its end, or stands on its way
abbrev pub HasCome : Exchange → State → ℕ → Come → Type 0
HasCome x first limit (Over end) = IsEndOf x first limit end
HasCome x first limit (Among run) = IsOnTheWay x first limit run

-- a run has come to its end, and a watcher has been told of its jobs
abbrev pub IsTold : {W : Type 0} → (W → Exchange → ℕ → JobStart → JobDone → W) → Exchange → State
    → ℕ → W → W → Come → Type 0
IsTold tell x first limit old new (Over end) =
    new ≡ told_of tell x first (jobs_at_end x limit first) old
IsTold tell x first limit old new (Among run) = Unit {0}

-- a run has come to its end
abbrev pub IsOver : Come → Type 0
IsOver (Over end) = Unit {0}
IsOver (Among run) = ⊥
