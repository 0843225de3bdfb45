-- The contracts' view of the dispatcher's state, and the invariant of its type.
use Rattle.std.specs.Prelude.{◌≡◌, ℕ, ◌<◌, [], Option, Some, None, MatchOption}
use Rattle.std.specs.FinMap as map
use Rattle.job_types.specs.Forlopps.{none_dead}
use Rattle.job_types.specs.Waiting.{nobody}
use Rattle.machine_code.specs.Coded.{Code}
use Rattle.exchange_model.specs.declared.exchange.Exchange.{Exchange}
use Rattle.source_meaning.specs.SingleRun.{ending_at}
use Rattle.source_meaning.specs.State.{State}
use Rattle.checked.specs.Kept.{KeptSummaries}
use Rattle.run_books.specs.declared.event.Ending.{Ending}
use Rattle.run_books.specs.Accounts.{Account}
use Rattle.run_books.specs.Events.{ending_of}
use Rattle.shared_store.specs.Seats.{RootView, StoreId}
use Rattle.parallel_dispatch.specs.Events.{IsReached}
use Rattle.parallel_dispatch.specs.Moves.{AreCounted}
use Rattle.parallel_dispatch.specs.Windows.{View}

-- the books, the root of the store, the jobs in flight, and the number of instructions of the jobs
-- that have retired
pub record DispatcherView : Type 0 where
  pub books : Account
  pub root : RootView
  pub window : View
  pub steps : ℕ

-- the invariant of the dispatcher's type: books, root and loans show a state of the core of events,
-- with each lent job at its start, that allowed events reach from the first state
pub record IsDispatcherState (x : Exchange) (k : KeptSummaries) (code : Code) (store : StoreId)
    (workers : ℕ) (first : State) (limit : ℕ) (books : Account) (root : RootView) (window : View)
    (steps : ℕ) : Type 0 where
  pub reached : IsReached x k code workers first limit books root.1 window.loans steps
  pub home : root.0 ≡ store
  pub room : window.room ≡ workers
  pub some : 0 < workers
  pub counted : AreCounted books window

-- the run is not over if no job is in flight
abbrev pub GoesOn : Account → View → Type 0
GoesOn books w = w.loans ≡ [] → ending_at books.limit books.state ≡ None

-- how the run ends, if no job is in flight and it is over
abbrev pub TellsEnd : Account → View → Option Ending → Type 0
TellsEnd books w ended = MatchOption ended (GoesOn books w)
    (λ e. (w.loans ≡ []) × (Some (ending_of e) ≡ ending_at books.limit books.state))

-- the value where no course is given
abbrev pub no_kept : KeptSummaries
no_kept = record { summaries = [] }

abbrev pub no_state : State
no_state = record {
  store = [];
  waiting = nobody;
  chains = map.empty;
  dead = none_dead;
  next = 1;
  ended = 0;
  restarts = 0;
  events = [];
  lines = [];
  arrived = [];
}
