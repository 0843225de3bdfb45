-- Two jobs that run at once, the first before the later one in the single run: what they do besides
-- one another, and what either is where the other one has been.
use Rattle.std.specs.Prelude.{◌≡◌, ◌↔◌, ℕ}
use Rattle.job_types.specs.declared.job.JobStart.{JobStart}
use Rattle.job_types.specs.Touches.{NoStore, stored}
use Rattle.exchange_model.specs.declared.exchange.Exchange.{Exchange}
use Rattle.source_meaning.specs.Job.{job}
use Rattle.source_meaning.specs.State.{State}
use Rattle.source_meaning.specs.Traces.{LeavesAlone, store_after, trace_of}
use Rattle.source_meaning.specs.Valid.{IsFitting}
use Rattle.entry_summary.specs.declared.summary.Summary.{Summary}
use Rattle.start_permit.specs.Granted.{MayRead, MayWrite}
use Rattle.order_laws.specs.Ends.{LetsStay}
use Rattle.order_laws.specs.Windows.{done_by}
use Rattle.pair_laws.specs.Orders.{SameOrders, after_job, retirement_touches}

-- neither of the two jobs stores to a word that the other one touches
pub record AreIndependent (x : Exchange) (s : State) (a b : JobStart) : Type 0 where
  pub by_first : LeavesAlone (trace_of x a s.store) (trace_of x b s.store)
  pub by_later : LeavesAlone (trace_of x b s.store) (trace_of x a s.store)

-- no word that one of them may write is one that the other may read, and so none that both may
-- write
pub record HaveOwnWords (x : Exchange) (s : State) (first later : Summary) (a b : JobStart) : Type
    0 where
  pub first_writes : (w : ℕ) → MayWrite x first a s.chains w → MayRead x later b s.chains w → ⊥
  pub later_writes : (w : ℕ) → MayRead x first a s.chains w → MayWrite x later b s.chains w → ⊥

-- the retirement of the first stores just this, and nothing to a word that the later one may read
pub record RetiresAside (x : Exchange) (s : State) (later : Summary) (a b : JobStart) : Type 0 where
  pub words : (after_job x a s).store ≡ stored (store_after x a s.store)
      (retirement_touches x (done_by (job x a s.store)))
  pub aside : (w : ℕ) → MayRead x later b s.chains w
      → NoStore w (retirement_touches x (done_by (job x a s.store)))

-- where the first has retired, the start of the later one fits, and it may read and write the same
-- words
pub record StartsAlike (x : Exchange) (s : State) (later : Summary) (a b : JobStart) : Type 0 where
  pub fits : IsFitting x (after_job x a s) b
  pub reads : (w : ℕ) → MayRead x later b s.chains w ↔ MayRead x later b (after_job x a s).chains w
  pub writes : (w : ℕ) → MayWrite x later b s.chains w
      ↔ MayWrite x later b (after_job x a s).chains w

-- the two jobs, begun in the state, leave one another alone; the first sends to no level above the
-- later one's, and where it faults it is of a forlopp, which is not the later one's; and in either
-- order each is the same job, and the words in the end are the same
pub record RunTogether (x : Exchange) (s : State) (first later : Summary) (a b : JobStart) : Type
    0 where
  pub independent : AreIndependent x s a b
  pub permits : HaveOwnWords x s first later a b
  pub stays : LetsStay a (done_by (job x a s.store)) b.job
  pub retires : RetiresAside x s later a b
  pub starts : StartsAlike x s later a b
  pub orders : SameOrders x s a b
