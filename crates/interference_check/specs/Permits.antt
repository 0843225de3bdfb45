-- What a permit lets a job do, and what every job of a start does under it.
use Rattle.std.specs.Prelude.{◌≡◌, ◌↔◌, ℕ, true, List, Some, slice_get}
use Rattle.std.specs.List.{AllByRecursion}
use Rattle.job_types.specs.declared.job.JobStart.{JobStart}
use Rattle.job_types.specs.Forlopps.{ChainMap}
use Rattle.machine_code.specs.declared.permit.Permit.{Permit}
use Rattle.machine_code.specs.Permits.{may_read, may_write}
use Rattle.exchange_model.specs.declared.exchange.Exchange.{Exchange}
use Rattle.source_meaning.specs.Job.{job}
use Rattle.source_meaning.specs.Traces.{trace_of}
use Rattle.entry_summary.specs.declared.summary.Summary.{Summary}
use Rattle.start_permit.specs.Granted.{MayRead, MayWrite}
use Rattle.permit_laws.specs.Permitted.{AreToLevels}
use Rattle.order_laws.specs.Windows.{done_by}
use Rattle.pair_laws.specs.Pairs.{IsFaulted}
use Rattle.machine_meaning.specs.Faithful.{MayMake}
use Rattle.checked.specs.Kept.{KeptSummaries}

-- the entry has a summary, and this holds of it
pub record OfEntry (k : KeptSummaries) (entry : ℕ) (Holds : Summary → Type 0) : Type 0 where
  pub summary : Summary
  pub there : slice_get k.summaries entry ≡ Some summary
  pub holds : Holds summary

-- the permit has just the words that a job of this start may read, and those that it may write
pub record IsPermitOf (x : Exchange) (m : Summary) (start : JobStart) (chains : ChainMap)
    (permit : Permit) : Type 0 where
  pub reads : (word : ℕ) → (may_read permit word ≡ true) ↔ MayRead x m start chains word
  pub writes : (word : ℕ) → (may_write permit word ≡ true) ↔ MayWrite x m start chains word

-- the permit lets the job that begins so on these words make each of its touches; it sends to no
-- levels but those of the summary, and a fault ends it only if the summary says that it may
pub record StaysWithin (x : Exchange) (m : Summary) (permit : Permit) (start : JobStart)
    (store : List ℕ) : Type 0 where
  pub touches : AllByRecursion (MayMake (may_read permit) (may_write permit))
      (trace_of x start store)
  pub levels : AreToLevels m (job x start store).own.sends
  pub fault : IsFaulted (done_by (job x start store)).outcome → m.fault ≡ true
