-- What the kept summaries say of jobs, wherever they begin.
use Rattle.std.specs.Prelude.{◌≡◌, Some, slice_get}
use Rattle.job_types.specs.declared.job.JobStart.{JobStart}
use Rattle.exchange_model.specs.declared.exchange.Exchange.{Exchange}
use Rattle.source_meaning.specs.State.{State}
use Rattle.source_meaning.specs.Valid.{IsFitting, IsJob, IsValid}
use Rattle.entry_summary.specs.declared.summary.Summary.{Summary}
use Rattle.pair_tests.specs.Pairs.{Passes}
use Rattle.checked.specs.Kept.{KeptSummaries}
use Rattle.order_laws.specs.Windows.{MakesWay}
use Rattle.pair_laws.specs.Orders.{KeepsTo}

-- the kept summary of the job's entry
abbrev pub IsSummaryOf : KeptSummaries → JobStart → Summary → Type 0
IsSummaryOf k start m = slice_get k.summaries start.job.entry ≡ Some m

-- by the kept summaries the two jobs pass the tests, the first before the later one
pub record PassBy (k : KeptSummaries) (a b : JobStart) : Type 0 where
  pub passes : (m n : Summary) → IsSummaryOf k a m → IsSummaryOf k b n → Passes m n a b

-- the kept summaries are sound: every job keeps to its summary, and if two jobs pass the tests, the
-- first one does not get in the way of the later one
pub record AreTrue (x : Exchange) (k : KeptSummaries) : Type 0 where
  pub keeps : (s : State) (m : Summary) (start : JobStart) → IsValid x s → IsFitting x s start
      → IsSummaryOf k start m
      → KeepsTo x s m start
  pub ways : (m n : Summary) (a b : JobStart) → IsSummaryOf k a m → IsSummaryOf k b n
      → IsJob x b.job → Passes m n a b
      → MakesWay x a b
