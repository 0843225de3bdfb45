-- Jobs in flight: they have a loan and have not retired. They form a window of the single run, at
-- the state in which the oldest of them is next.
use Rattle.std.specs.Prelude.{◌≡◌, ℕ, ◌+◌, ◌≤◌, true, List, [], ◌∷◌, length, map}
use Rattle.std.specs.List.{AllByRecursion}
use Rattle.job_types.specs.declared.job.JobStart.{JobStart}
use Rattle.machine_code.specs.Permits.{may_read, may_write}
use Rattle.exchange_model.specs.declared.exchange.Exchange.{Exchange}
use Rattle.source_meaning.specs.State.{State}
use Rattle.source_meaning.specs.Traces.{AgreeOn, trace_of}
use Rattle.source_meaning.specs.Valid.{IsValid}
use Rattle.entry_summary.specs.declared.summary.Summary.{Summary}
use Rattle.start_permit.specs.Granted.{MayRead, MayWrite}
use Rattle.checked.specs.Kept.{KeptSummaries}
use Rattle.order_laws.specs.Books.{AreAhead}
use Rattle.run_books.specs.Accounts.{Account, with_words}
use Rattle.shared_store.specs.declared.view.Lent.{Lent}
use Rattle.shared_store.specs.declared.view.Top.{Top}
use Rattle.shared_store.specs.Loans.{Has}
use Rattle.parallel_dispatch.specs.Told.{IsSummaryOf, PassBy}

-- the starts of the jobs of these loans
abbrev pub starts_of : List Lent → List JobStart
starts_of loans = map (λ (l : Lent). l.start) loans

-- the loan of a job in this state: the words that the job touches are still as they were lent, and
-- the permit permits no more than the summary of the job's entry does in this state
pub record IsLent (x : Exchange) (k : KeptSummaries) (s : State) (l : Lent) : Type 0 where
  pub summary : Summary
  pub told : IsSummaryOf k l.start summary
  pub same : AgreeOn (trace_of x l.start l.base) l.base s.store
  pub reads : (w : ℕ) → may_read l.permit w ≡ true → MayRead x summary l.start s.chains w
  pub writes : (w : ℕ) → may_write l.permit w ≡ true → MayWrite x summary l.start s.chains w

-- each older job passes the tests with each younger one; the oldest comes first
abbrev pub AllPass : KeptSummaries → List JobStart → Type 0
AllPass k [] = Unit {0}
AllPass k (older ∷ rest) = AllByRecursion (PassBy k older) rest × AllPass k rest

-- the ended jobs and those in flight are within the limit; holds trivially if none is in flight
abbrev pub AreWithin : ℕ → ℕ → List Lent → Type 0
AreWithin limit ended [] = Unit {0}
AreWithin limit ended (l ∷ rest) = ended + length (l ∷ rest) ≤ limit

-- the jobs of these loans, the oldest first, have begun in the books, and the root has lent their
-- words: books and root are those of this state of the single run
pub record Fly (x : Exchange) (k : KeptSummaries) (s : State) (books : Account) (top : Top)
    (loans : List Lent) : Type 0 where
  pub valid : IsValid x s
  pub values : top.values ≡ s.store
  pub ahead : AreAhead x s (starts_of loans) (with_words books.state s.store)
  pub running : books.running ≡ length loans
  pub within : AreWithin books.limit s.ended loans
  pub lent : AllByRecursion (IsLent x k s) loans
  pub pass : AllPass k (starts_of loans)
  pub listed : (l : Lent) → Has top.loans l → Has loans l
