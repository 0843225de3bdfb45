-- Two jobs in both orders: the later one after the first has retired, and the first after the later
-- one's words.
use Rattle.std.specs.Prelude.{◌≡◌, true, List, []}
use Rattle.job_types.specs.declared.chain.Held.{Held}
use Rattle.job_types.specs.declared.job.JobStart.{JobStart}
use Rattle.job_types.specs.declared.outcome.JobDone.{JobDone}
use Rattle.job_types.specs.declared.outcome.Outcome.{Outcome}
use Rattle.job_types.specs.declared.outcome.Outcome.TheVariants.{Ended, Faulted}
use Rattle.job_types.specs.declared.touch.Touch.{Touch}
use Rattle.job_types.specs.Own.{untouched}
use Rattle.exchange_model.specs.declared.exchange.Exchange.{Exchange}
use Rattle.source_meaning.specs.Job.{job}
use Rattle.source_meaning.specs.Retirement.{release_world}
use Rattle.source_meaning.specs.SingleRun.{ended_as}
use Rattle.source_meaning.specs.State.{State}
use Rattle.source_meaning.specs.Traces.{over_words, store_after, trace_of}
use Rattle.entry_summary.specs.declared.summary.Summary.{Summary}
use Rattle.order_laws.specs.Windows.{done_by}
use Rattle.pair_laws.specs.Pairs.{IsFaulted}
use Rattle.permit_laws.specs.Permitted.{ArePermitted}

-- what a release of these records stores, whatever the words are
abbrev pub release_touches : Exchange → List Held → List Touch
release_touches x held = (release_world x held (untouched [])).trace

-- what the retirement of a job of a forlopp stores: nothing, or its release after a fault
abbrev pub ended_touches : Exchange → Outcome → List Held → List Touch
ended_touches x Ended held = []
ended_touches x (Faulted f point) held = release_touches x held

abbrev pub retirement_touches : Exchange → JobDone → List Touch
retirement_touches x done = ended_touches x done.outcome done.chain

-- a job that begins in the state keeps to what the summary says: its touches are permitted, and a
-- fault ends it only if it may fault
pub record KeepsTo (x : Exchange) (s : State) (m : Summary) (start : JobStart) : Type 0 where
  pub touches : ArePermitted x m start s.chains (trace_of x start s.store)
  pub fault : IsFaulted (done_by (job x start s.store)).outcome → m.fault ≡ true

-- the job has run from the state, and has retired
abbrev pub after_job : Exchange → JobStart → State → State
after_job x start s = ended_as x start (job x start s.store) s

-- the words are those that the job leaves, and all else is as before
abbrev pub with_words_of : Exchange → JobStart → State → State
with_words_of x start s = record s { store = store_after x start s.store }

-- in either order each of the two is the same job with the same trace, sends, chain and outcome,
-- and the words are the same
pub record SameOrders (x : Exchange) (s : State) (a b : JobStart) : Type 0 where
  pub later : job x b (after_job x a s).store ≡ over_words (after_job x a s).store (job x b s.store)
  pub first : job x a (store_after x b s.store)
      ≡ over_words (store_after x b s.store) (job x a s.store)
  pub words : store_after x b (after_job x a s).store ≡ (after_job x a (with_words_of x b s)).store
