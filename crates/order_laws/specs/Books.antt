-- The books of an exchange that keeps several jobs at once, beside the single run.
use Rattle.std.specs.Prelude.{◌≡◌, List, [], ◌∷◌}
use Rattle.job_types.specs.declared.job.JobStart.{JobStart}
use Rattle.job_types.specs.declared.outcome.JobDone.{JobDone}
use Rattle.exchange_model.specs.declared.exchange.Exchange.{Exchange}
use Rattle.source_meaning.specs.Arrivals.{arrivals}
use Rattle.source_meaning.specs.Retirement.{retires}
use Rattle.source_meaning.specs.State.{State}
use Rattle.source_meaning.specs.Valid.{MayBe}
use Rattle.order_laws.specs.Picks.{all_begun}
use Rattle.order_laws.specs.Windows.{IsWindow, jobs_of}

-- in these books the jobs of a window have begun, and none of them has retired: they are those of
-- the single run's state, but for the stored words, of which nothing is said
pub record AreAhead (x : Exchange) (s : State) (starts : List JobStart) (books : State) : Type
    0 where
  pub window : IsWindow x s starts
  pub same : books ≡ record (all_begun (jobs_of starts) s) { store = books.store }

-- the oldest job retires, and what is due arrives where no job is left
abbrev pub settles : Exchange → JobStart → JobDone → List JobStart → State → State
settles x oldest done [] books = arrivals x (retires x oldest done books)
settles x oldest done (next ∷ rest) books = retires x oldest done books

-- the job's forlopp is none, or one that lives in these books
abbrev pub MayRetire : State → JobStart → Type 0
MayRetire books start = MayBe books start.job.forlopp
