-- How a job is run, how far the single run has come, and where it ends.
use Rattle.std.specs.Prelude.{◌≡◌, ℕ, zero, suc, ◌+◌, ◌<◌, List, Some, None}
use Rattle.std.specs.Option.{option_map_or}
use Rattle.job_types.specs.declared.job.JobStart.{JobStart}
use Rattle.job_types.specs.declared.outcome.JobDone.{JobDone}
use Rattle.job_types.specs.Own.{done_of}
use Rattle.exchange_model.specs.declared.exchange.Exchange.{Exchange}
use Rattle.source_meaning.specs.Job.{job}
use Rattle.source_meaning.specs.SingleRun.{after, end_state, ending_at, next_start, turn}
use Rattle.source_meaning.specs.SingleRun as single
use Rattle.source_meaning.specs.State.{State}
use Rattle.source_meaning.specs.Valid.{IsValid, IsFitting}
use Rattle.run_books.specs.Accounts.{Account, with_words}
use Rattle.run_books.specs.Events.{ending_of}
use Rattle.exchange_run.specs.declared.turns.Ended.{Ended}
use Rattle.exchange_run.specs.declared.turns.Standing.{Standing}

-- a start that fits a valid state of these stored words
pub record MayRun (x : Exchange) (start : JobStart) (store : List ℕ) : Type 0 where
  pub state : State
  pub valid : IsValid x state
  pub fitting : IsFitting x state start
  pub store_is : state.store ≡ store

-- what a job of this start leaves, over these words
abbrev pub left_by : Exchange → JobStart → List ℕ → JobDone
left_by x start store = done_of (job x start store).own (job x start store).over

-- the words after a job of this start
abbrev pub words_after : Exchange → JobStart → List ℕ → List ℕ
words_after x start store = (job x start store).world.store

-- what a watcher is once it has been told of the next job of a state, if there is one
abbrev pub told_next : {W : Type 0} → (W → Exchange → ℕ → JobStart → JobDone → W) → Exchange → State
    → W → W
told_next tell x s w =
    option_map_or (λ start. tell w x (s.ended + 1) start (left_by x start s.store)) (next_start s) w

-- what it is once it has been told of the first jobs, so many, of the single run from a state
unfoldable pub told_of : {W : Type 0} → (W → Exchange → ℕ → JobStart → JobDone → W) → Exchange
    → State → ℕ → W → W
told_of tell x first zero w = w
told_of tell x first (suc n) w = told_next tell x (after x first n) (told_of tell x first n w)

-- the state of books and words
abbrev pub state_of : Standing → State
state_of run = with_words run.books.state run.words

-- a run may go on with these books and words: nobody runs, and they stand for a valid state
pub record MayGoOn (x : Exchange) (run : Standing) : Type 0 where
  pub nobody : run.books.running ≡ 0
  pub valid : IsValid x (state_of run)

-- the run is not over with these books and words, so that there is a turn
pub record HasTurn (x : Exchange) (b : Account) (words : List ℕ) : Type 0 where
  pub nobody : b.running ≡ 0
  pub goes_on : ending_at b.limit b.state ≡ None
  pub valid : IsValid x (with_words b.state words)

-- a turn leads from books and words to these
pub record IsTurn (x : Exchange) (old new : Account) (words now : List ℕ) : Type 0 where
  pub state : with_words new.state now ≡ turn x (with_words old.state words)
  pub nobody : new.running ≡ 0
  pub limit : new.limit ≡ old.limit

-- the books and the words stand for the single run from this state after so many jobs, nobody runs,
-- and the run was not over before
pub record RunStands (x : Exchange) (first : State) (limit n : ℕ) (b : Account)
    (words : List ℕ) : Type 0 where
  pub state : with_words b.state words ≡ after x first n
  pub nobody : b.running ≡ 0
  pub limited : b.limit ≡ limit
  pub goes_on : (m : ℕ) → m < n → ending_at limit (after x first m) ≡ None

-- the books and the words stand for the end of the single run from this state, and this is how it
-- ends
pub record RunsTo (x : Exchange) (first : State) (limit : ℕ) (s : State) (words : List ℕ)
    (ending : single.Ending) : Type 0 where
  pub state : with_words s words ≡ end_state x limit first
  pub ends : ending_at limit (end_state x limit first) ≡ Some ending

-- the end of the single run from this state, with nobody who runs
pub record IsEndOf (x : Exchange) (first : State) (limit : ℕ) (end : Ended) : Type 0 where
  pub runs : RunsTo x first limit end.books.state end.words (ending_of end.ending)
  pub nobody : end.books.running ≡ 0
