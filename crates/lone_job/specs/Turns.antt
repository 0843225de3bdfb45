-- A job that runs alone, on the memory words of a root without loans.
use Rattle.std.specs.Prelude.{◌≡◌, ℕ, zero, suc, ◌≤◌, List, [], Some, None}
use Rattle.plex_limits.specs.declared.limits.TheConstants.{MOST_JOBS}
use Rattle.job_types.specs.declared.job.JobStart.{JobStart}
use Rattle.job_types.specs.declared.outcome.JobDone.{JobDone}
use Rattle.job_types.specs.Own.{done_of}
use Rattle.machine_code.specs.Coded.{Code}
use Rattle.exchange_model.specs.declared.exchange.Exchange.{Exchange}
use Rattle.source_meaning.specs.Arrivals.{arrivals}
use Rattle.source_meaning.specs.Retirement.{retires}
use Rattle.source_meaning.specs.State.{State}
use Rattle.machine_meaning.specs.Faithful.{Ends, begun, started}
use Rattle.machine_meaning.specs.Machine.{Machine}
use Rattle.machine_meaning.specs.Private.{Private}
use Rattle.run_books.specs.Accounts.{Account, after_start, upcoming, with_words}
use Rattle.run_books.specs.Retired.{HasRetired}
use Rattle.run_engines.specs.Machines.{Leaves}
use Rattle.exchange_run.specs.Runs.{HasTurn, IsTurn, left_by, words_after}
use Rattle.shared_store.specs.declared.view.Top.{Top}
use Rattle.shared_store.specs.Loans.{unlent}
use Rattle.shared_store.specs.Seats.{RootView, StoreId}

-- the next job of the books may run on the root's own words: the run has a next job, and nothing is
-- lent
pub record MayTurn (x : Exchange) (books : Account) (top : Top) : Type 0 where
  pub turn : HasTurn x books top.values
  pub limited : books.limit ≤ MOST_JOBS
  pub bare : top.loans ≡ []

-- the code runs this start to its end, alone on these words: the run then, and the root's words
pub record RunEnds (code : Code) (start : JobStart) (words : List ℕ) (run : Private)
    (root : Top) : Type 0 where
  pub end : Machine
  pub ends : Ends code.ops (begun (started code start) words) end
  pub run_is : run ≡ end.run
  pub words_are : root.values ≡ end.world.store

-- a job of this start has run to its end on these words, none of which was lent: its run leaves
-- what the job means, and the root has the words after the job
pub record HasRunAlone (x : Exchange) (code : Code) (start : JobStart) (words : List ℕ)
    (run : Private) (root : Top) : Type 0 where
  pub leaves : Leaves run (left_by x start words)
  pub root_is : root ≡ unlent (words_after x start words)
  pub comes : RunEnds code start words run root

-- the state after arrivals, which take place only where no job is running
abbrev pub arrived : Exchange → ℕ → State → State
arrived x zero s = arrivals x s
arrived x (suc n) s = s

-- a job with this start and this outcome has retired in the books and on the root's words, and if
-- no job is running any more, the lines that are due have arrived; the root's loans are unchanged
pub record HasRetiredOn (x : Exchange) (start : JobStart) (done : JobDone) (books : Account)
    (top : Top) (next : Account) (now : Top) : Type 0 where
  pub settled : Account
  pub retired : HasRetired x start done books settled top.values now.values None None
  pub next_is : next ≡ record settled { state = arrived x settled.running settled.state }
  pub loans : now.loans ≡ top.loans

-- the next job of the books has run by the code, alone on the words of a root without loans, in
-- this many instructions; it has retired, and the lines that are due have arrived; nothing is lent
pub record HasTurnedAlone (x : Exchange) (code : Code) (books : Account) (top : Top)
    (next : Account) (now : Top) (steps : ℕ) : Type 0 where
  pub start : JobStart
  pub is_next : Some start ≡ upcoming books
  pub end : Machine
  pub ends : Ends code.ops (begun (started code start) top.values) end
  pub made : steps ≡ end.run.made
  pub settled : Account
  pub left : with_words settled.state now.values
      ≡ retires x start (done_of end.run.own end.run.over)
      (with_words (after_start (Some start) books).state end.world.store)
  pub nobody : settled.running ≡ 0
  pub limit : settled.limit ≡ books.limit
  pub arrived : next ≡ record settled { state = arrivals x settled.state }
  pub bare : now.loans ≡ []
  pub turn : IsTurn x books next top.values now.values

-- the root is that of the same store, with the same loans
pub record KeepsLoans (root now : RootView) : Type 0 where
  pub home : now.0 ≡ root.0
  pub loans : now.1.loans ≡ root.1.loans

-- the root is that of this store, and nothing is lent
pub record LendsNothing (store : StoreId) (root : RootView) : Type 0 where
  pub home : root.0 ≡ store
  pub bare : root.1.loans ≡ []
