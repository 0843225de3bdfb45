-- A window: jobs that were picked one after the other from a state of the single run, where each
-- older one lets each younger one keep its turn.
use Rattle.std.specs.Prelude.{◌≡◌, ℕ, zero, suc, ◌+◌, false, List, [], ◌∷◌, length, drop, map, Some}
use Rattle.std.specs.List.{AllByRecursion}
use Rattle.job_types.specs.declared.job.Job.{Job}
use Rattle.job_types.specs.declared.job.JobStart.{JobStart}
use Rattle.job_types.specs.declared.outcome.JobDone.{JobDone}
use Rattle.job_types.specs.Own.{done_of}
use Rattle.exchange_model.specs.declared.exchange.Exchange.{Exchange}
use Rattle.source_meaning.specs.Config.{Config}
use Rattle.source_meaning.specs.Job.{job}
use Rattle.source_meaning.specs.SingleRun.{next_start, start_of, turn}
use Rattle.source_meaning.specs.State.{State, has_stopped}
use Rattle.source_meaning.specs.Valid.{IsFitting, IsValid}
use Rattle.order_laws.specs.Ends.{AreOther, LetsStay}
use Rattle.order_laws.specs.Keeps.{NoLineBefore}
use Rattle.order_laws.specs.Picks.{Picks}

-- what a job leaves that ran to this end
abbrev pub done_by : Config → JobDone
done_by end = done_of end.own end.over

-- wherever the older job may begin, its end lets the younger one keep its turn, and they are of two
-- forlopps
pub record MakesWay (x : Exchange) (older younger : JobStart) : Type 0 where
  pub forlopps : AreOther older.job.forlopp younger.job.forlopp
  pub stays : (s : State) → IsValid x s → IsFitting x s older
      → LetsStay older (done_by (job x older s.store)) younger.job

-- each older one to each younger one, the oldest first
abbrev pub AllMakeWay : Exchange → List JobStart → Type 0
AllMakeWay x [] = Unit {0}
AllMakeWay x (older ∷ rest) = AllByRecursion (MakesWay x older) rest × AllMakeWay x rest

-- so many jobs retire before the next line comes, and the last restart has not come
pub record RunBefore (s : State) (count : ℕ) : Type 0 where
  pub lines : NoLineBefore (s.ended + count) s.lines
  pub going : has_stopped s ≡ false

-- of no job nothing is asked
abbrev pub AllRunBefore : State → List JobStart → Type 0
AllRunBefore s [] = Unit {0}
AllRunBefore s (oldest ∷ rest) = RunBefore s (length (oldest ∷ rest))

abbrev pub jobs_of : List JobStart → List Job
jobs_of starts = map (λ (start : JobStart). start.job) starts

-- what the job starts with is what it would start with in this state
abbrev pub StartsAs : State → JobStart → Type 0
StartsAs s start = start ≡ start_of start.job s

-- these starts are a window of the state, the oldest first
pub record IsWindow (x : Exchange) (s : State) (starts : List JobStart) : Type 0 where
  pub picked : Picks s.waiting (jobs_of starts)
  pub same : AllByRecursion (StartsAs s) starts
  pub ways : AllMakeWay x starts
  pub before : AllRunBefore s starts

-- the state of the single run so many jobs later
unfoldable pub turns : Exchange → State → ℕ → State
turns x s zero = s
turns x s (suc n) = turns x (turn x s) n

-- so many jobs later the single run begins with this start, one of a window, and those that are
-- left are a window
pub record IsTurnOf (x : Exchange) (s : State) (starts : List JobStart) (n : ℕ)
    (start : JobStart) : Type 0 where
  pub next : next_start (turns x s n) ≡ Some start
  pub ended : (turns x s n).ended ≡ s.ended + n
  pub lines : (turns x s n).lines ≡ s.lines
  pub left : IsWindow x (turns x s n) (drop n starts)
