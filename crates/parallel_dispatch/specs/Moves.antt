-- Preconditions and postconditions of the dispatcher's moves.
use Rattle.std.specs.Prelude.{◌≡◌, ℕ, ◌+◌, ◌*◌, ◌-◌, ◌<◌, ◌≤◌, List, [], length, Some, None}
use Rattle.std.specs.List.{AllByRecursion}
use Rattle.plex_limits.specs.declared.limits.TheConstants.{MOST_JOBS}
use Rattle.job_types.specs.declared.job.JobStart.{JobStart}
use Rattle.machine_code.specs.Coded.{Code}
use Rattle.exchange_model.specs.declared.exchange.Exchange.{Exchange}
use Rattle.exchange_model.specs.Kept.{IsExchange}
use Rattle.store_layout.specs.Laid.{IsLayout}
use Rattle.source_meaning.specs.SingleRun.{turn}
use Rattle.source_meaning.specs.State.{State}
use Rattle.checked.specs.Kept.{IsChecked, KeptSummaries}
use Rattle.order_laws.specs.Keeps.{NoLineBefore}
use Rattle.machine_meaning.specs.Faithful.{Faithful}
use Rattle.run_books.specs.Accounts.{Account, upcoming, with_words}
use Rattle.shared_store.specs.declared.view.Top.{Top}
use Rattle.shared_store.specs.declared.view.Lent.{Lent}
use Rattle.shared_store.specs.Loans.{Has}
use Rattle.shared_store.specs.Seats.{RootView, StoreId}
use Rattle.ticket_book.specs.Pages.{BookId, PenView}
use Rattle.lone_job.specs.declared.context.RunContext.{RunContext}
use Rattle.worker_pool.specs.declared.means.Means.{Means}
use Rattle.worker_pool.specs.Ways.{AreMeans}
use Rattle.parallel_dispatch.specs.declared.dispatcher.StoredRun.{StoredRun}
use Rattle.parallel_dispatch.specs.declared.moves.Move.{Move}
use Rattle.parallel_dispatch.specs.declared.moves.Move.TheVariants.{Issue, Retire, RunAlone}
use Rattle.parallel_dispatch.specs.declared.moves.Retired.{Retired}
use Rattle.interleave_core.specs.declared.event.CoreEvent.{CoreEvent}
use Rattle.interleave_core.specs.Allowed.{MayFollow}
use Rattle.interleave_core.specs.Runs.{setting}
use Rattle.parallel_dispatch.specs.Ends.{MayStart}
use Rattle.parallel_dispatch.specs.Events.{IsIssued, IsLed}
use Rattle.parallel_dispatch.specs.Flying.{Fly, starts_of}
use Rattle.parallel_dispatch.specs.Made.{JobMakes}
use Rattle.parallel_dispatch.specs.Told.{AreTrue}
use Rattle.parallel_dispatch.specs.Windows.{View}

-- code and summaries are those of the exchange, and the summaries are sound for its jobs
pub record AreOf (x : Exchange) (code : Code) (k : KeptSummaries) : Type 0 where
  pub exchange : IsExchange x
  pub faithful : Faithful x code
  pub checked : IsChecked x k
  pub true_of : AreTrue x k

-- context, means and book are those of this exchange, code, store and ticket book, with these
-- summaries and this limit of jobs at a time; and these belong together
pub record Suits (x : Exchange) (o : Code) (s : StoreId) (b : BookId) (k : KeptSummaries) (w : ℕ)
    (c : RunContext) (m : Means) (book : BookId) : Type 0 where
  pub exchange : c.exchange.now ≡ x
  pub code : c.code.now ≡ o
  pub kept : c.checked.now ≡ k
  pub workers : c.workers ≡ w
  pub some : 0 < c.workers
  pub means : AreMeans x o s m
  pub book_is : book ≡ b
  pub laid : IsLayout x.blocks c.layout.now
  pub set : AreOf x o k

-- the kept summaries have one for the job's entry
abbrev pub HasSummary : KeptSummaries → JobStart → Type 0
HasSummary k start = start.job.entry < length k.summaries

-- a job may run beside each of these older ones
abbrev pub FollowsAll : KeptSummaries → List JobStart → JobStart → Type 0
FollowsAll k olders later = AllByRecursion (λ (older : JobStart). MayFollow k older later) olders

-- the next job of the books may be issued beside those in flight: it passes the tests with each of
-- them, and all of them and the job retire before the next line is due
pub record MayFly (k : KeptSummaries) (books : Account) (w : View) (start : JobStart) : Type 0 where
  pub next : Some start ≡ upcoming books
  pub room : length w.loans < w.room
  pub line : NoLineBefore (books.state.ended + length w.loans + 1) books.state.lines
  pub pass : FollowsAll k (starts_of w.loans) start

-- there is a next job, and it may be issued
pub record MayIssue (k : KeptSummaries) (books : Account) (w : View) : Type 0 where
  pub start : JobStart
  pub may : MayFly k books w start

-- the next job of the books may run on the root's own words: no job is in flight, and it retires
-- before the next line is due
pub record MayRunAlone (books : Account) (w : View) : Type 0 where
  pub nobody : w.loans ≡ []
  pub room : 0 < w.room
  pub line : NoLineBefore (books.state.ended + 1) books.state.lines

-- the move is allowed: to run alone or be issued, the next job must be one that may; the oldest may
-- retire if one is in flight or there is no next job
abbrev pub MayMove : KeptSummaries → Account → View → Move → Type 0
MayMove k books w RunAlone = MayRunAlone books w
MayMove k books w (Issue entry) = MayIssue k books w
MayMove k books w Retire = w.loans ≡ [] → None ≡ upcoming books

-- books, root and window belong to some state of the single run
abbrev pub Flying : Exchange → KeptSummaries → Account → RootView → View → Type 0
Flying x k books root w = (s : State) × Fly x k s books root.1 w.loans

-- a measure that each move decreases: twice the jobs that the limit still allows to begin, plus
-- those in flight
abbrev pub to_do : Account → ℕ
to_do b = 2 * (b.limit - (b.state.ended + b.running)) + b.running

-- no more jobs have been in flight than have ended or are running, and the limit is at most that of
-- all runs
pub record AreCounted (books : Account) (w : View) : Type 0 where
  pub flown : w.flown ≤ books.state.ended + books.running
  pub limited : books.limit ≤ MOST_JOBS

-- books, root and window belong to a state of the single run, with a root of this store, and the
-- counts are within bounds
pub record StandBeside (x : Exchange) (k : KeptSummaries) (store : StoreId) (books : Account)
    (root : RootView) (w : View) : Type 0 where
  pub home : root.0 ≡ store
  pub counted : AreCounted books w
  pub flying : Flying x k books root w

-- one more job is in flight: books, root and window belong to the same state as before, by one
-- event
pub record HasIssued (x : Exchange) (k : KeptSummaries) (code : Code) (books : Account) (top : Top)
    (w : View) (next : Account) (now : Top) (v : View) : Type 0 where
  pub fly : (s : State) → Fly x k s books top w.loans → Fly x k s next now v.loans
  pub event : IsIssued (setting x code k w.room) books top w.loans next now v.loans

-- the limit is unchanged, the counts are within bounds, and the measure is smaller
abbrev pub CountsOne : Account → Account → View → Type 0
CountsOne old new w = (new.limit ≡ old.limit) × AreCounted new w × (to_do new < to_do old)

-- the next job has run and retired by these events: if books, root and window belonged to a state,
-- what is left belongs to the next one; the job executed this many instructions
pub record HasTurned (x : Exchange) (k : KeptSummaries) (code : Code) (store : StoreId)
    (events : ℕ → ℕ → List CoreEvent) (books : Account) (top : Top) (w : View) (next : Account)
    (left : Retired) (v : View) : Type 0 where
  pub fly : (s : State) → Fly x k s books top w.loans → Fly x k (turn x s) next left.root.1 v.loans
  pub steps : (s : State) → Fly x k s books top w.loans → JobMakes code s left.steps
  pub led : IsLed (setting x code k w.room) events books top w.loans next left.root.1 v.loans
      left.steps
  pub home : left.root.0 ≡ store
  pub limit : next.limit ≡ books.limit
  pub room : v.room ≡ w.room
  pub counted : AreCounted next v
  pub fewer : to_do next < to_do books

-- what is left when out of memory: the root is that of the store, and all its loans are those of
-- the jobs in flight
pub record IsLeft (store : StoreId) (root : RootView) (loans : List Lent) : Type 0 where
  pub home : root.0 ≡ store
  pub listed : (l : Lent) → Has root.1.loans l → Has loans l

-- the root is that of the store and has no loans: each job with a loan has ended and returned it
pub record IsBare (store : StoreId) (root : RootView) : Type 0 where
  pub home : root.0 ≡ store
  pub bare : root.1.loans ≡ []

-- no ticket was written; books and root, from which a run may start, are those of this state and
-- limit
pub record MayBegin (x : Exchange) (store : StoreId) (book : BookId) (first : State) (limit : ℕ)
    (pen : PenView) (run : StoredRun) : Type 0 where
  pub start : MayStart x store run
  pub pen_is : pen ≡ (book, 0)
  pub limit_is : run.books.limit ≡ limit
  pub first_is : with_words run.books.state run.root.1.values ≡ first
