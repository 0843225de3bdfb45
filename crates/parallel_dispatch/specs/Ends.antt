-- The end of the run.
use Rattle.std.specs.Prelude.{◌≡◌, ℕ, ◌%◌, ◌^◌, ◌≤◌, List, [], Some}
use Rattle.plex_limits.specs.declared.limits.TheConstants.{MOST_JOBS}
use Rattle.machine_code.specs.Coded.{Code}
use Rattle.exchange_model.specs.declared.exchange.Exchange.{Exchange}
use Rattle.source_meaning.specs.SingleRun.{Ending, end_state, ending_at, jobs_at_end}
use Rattle.source_meaning.specs.State.{State}
use Rattle.run_books.specs.Accounts.{Account, with_words}
use Rattle.run_books.specs.Events.{ending_of}
use Rattle.source_meaning.specs.Valid.{IsValid}
use Rattle.checked.specs.Kept.{KeptSummaries}
use Rattle.interleave_core.specs.declared.event.CoreEvent.{CoreEvent}
use Rattle.interleave_core.specs.Cores.{Core}
use Rattle.interleave_core.specs.Runs.{Runs, Setting, setting}
use Rattle.shared_store.specs.Loans.{unlent}
use Rattle.shared_store.specs.Seats.{StoreId}
use Rattle.exchange_run.specs.declared.turns.Standing.{Standing}
use Rattle.exchange_run.specs.Comes.{IsOnTheWay}
use Rattle.parallel_dispatch.specs.declared.dispatcher.Dispatched.{Dispatched}
use Rattle.parallel_dispatch.specs.declared.dispatcher.Dispatched.TheVariants.{Over, Rests}
use Rattle.parallel_dispatch.specs.declared.dispatcher.Ended.{Ended}
use Rattle.parallel_dispatch.specs.declared.dispatcher.Rested.{Rested}
use Rattle.parallel_dispatch.specs.declared.dispatcher.StoredRun.{StoredRun}
use Rattle.lone_job.specs.declared.context.RunContext.{RunContext}
use Rattle.parallel_dispatch.specs.Events.{first_core}
use Rattle.parallel_dispatch.specs.Made.{AllMake}
use Rattle.parallel_dispatch.specs.Turning.{steps_in}

-- books and words are those at the end of the single run from this first state; it ends so, and its
-- jobs executed this many instructions, modulo 2^64
pub record EndsAs (x : Exchange) (code : Code) (first : State) (limit : ℕ) (books : State)
    (words : List ℕ) (ending : Ending) (steps : ℕ) : Type 0 where
  pub state : with_words books words ≡ end_state x limit first
  pub ends : ending_at limit (end_state x limit first) ≡ Some ending
  pub made : AllMake x code first (jobs_at_end x limit first) steps

-- allowed events lead from this first state, after the arrivals that were due, to these books and
-- words with an empty window; this many of them are instructions, modulo 2^64
pub record AreLedTo (k : Setting) (first : State) (limit : ℕ) (books : State) (words : List ℕ)
    (steps : ℕ) : Type 0 where
  pub events : List CoreEvent
  pub counted : steps ≡ steps_in events % 2 ^ 64
  pub core : Core
  pub runs : Runs k events (first_core k.exchange first limit) core
  pub state : core.state ≡ with_words books words
  pub empty : core.window ≡ []

-- the run from this first state, with at most `workers` jobs at a time, has this end: that of the
-- single run, reached by events
pub record IsRunEnd (x : Exchange) (code : Code) (k : KeptSummaries) (workers : ℕ) (first : State)
    (limit : ℕ) (end : Ended) : Type 0 where
  pub ends : EndsAs x code first limit end.books.state end.words (ending_of end.ending) end.steps
  pub led : AreLedTo (setting x code k workers) first limit end.books.state end.words end.steps
  pub nobody : end.books.running ≡ 0

-- these books and words are an intermediate state of the single run from this first state, reached
-- by events with at most `workers` jobs at a time, and the window is empty
pub record IsRunRest (x : Exchange) (code : Code) (k : KeptSummaries) (workers : ℕ) (first : State)
    (limit : ℕ) (run : Rested) : Type 0 where
  pub way : IsOnTheWay x first limit run.there
  pub led : AreLedTo (setting x code k workers) first limit run.there.books.state run.there.words
      run.steps

-- if the run is over by these books, it was handed back at its end
abbrev pub IsEndWhereOver : Exchange → Code → State → ℕ → Account → Rested → Type 0
IsEndWhereOver x code first limit books run =
    (e : Ending) → Some e ≡ ending_at books.limit books.state
    → EndsAs x code first limit run.there.books.state run.there.words e run.steps

-- the run is at its end, or was handed back before it
abbrev pub IsRunTo : Exchange → Code → KeptSummaries → ℕ → State → ℕ → Dispatched → Type 0
IsRunTo x code k workers first limit (Over end) = IsRunEnd x code k workers first limit end
IsRunTo x code k workers first limit (Rests run) = IsRunRest x code k workers first limit run

-- it is at its end
abbrev pub IsOver : Dispatched → Type 0
IsOver (Over end) = Unit {0}
IsOver (Rests run) = ⊥

-- a run may continue from these books and this root: no job is running, the root is that of the
-- store and has no loans, and the two stand for a valid state
pub record MayStart (x : Exchange) (store : StoreId) (run : StoredRun) : Type 0 where
  pub nobody : run.books.running ≡ 0
  pub limit : run.books.limit ≤ MOST_JOBS
  pub root : run.root ≡ (store, unlent run.root.1.values)
  pub valid : IsValid x (with_words run.books.state run.root.1.values)

-- the result of a dispatch in this context from these books and the words of this root
abbrev pub IsDispatched : RunContext → StoredRun → Dispatched → Type 0
IsDispatched c run come =
    IsRunTo c.exchange.now c.code.now c.checked.now c.workers
    (with_words run.books.state run.root.1.values) run.books.limit come
