-- In which cores each event that is allowed can be made.
--
-- Whether an instruction is in its ranges, and whether a retirement stores to words that are there,
-- cannot be seen of a core alone: it follows from where the events began. So it is asked of each
-- core to which events lead.
use Rattle.std.specs.Prelude.{◌≡◌, ℕ, ◌<◌, List, ◌∷◌, length, slice_get, Some, None, IsSome}
use Rattle.std.specs.List.{AllByRecursion}
use Rattle.job_types.specs.declared.job.JobStart.{JobStart}
use Rattle.job_types.specs.Own.{done_of}
use Rattle.machine_code.specs.Coded.{Code}
use Rattle.machine_code.specs.Listed.{is_word_of}
use Rattle.exchange_model.specs.declared.exchange.Exchange.{Exchange}
use Rattle.source_meaning.specs.SingleRun.{next_start}
use Rattle.source_meaning.specs.State.{State}
use Rattle.source_meaning.specs.Valid.{MayBe}
use Rattle.run_books.specs.Accounts.{with_words}
use Rattle.run_books.specs.Retired.{retired_world}
use Rattle.run_books.specs.Stores.{MayStore}
use Rattle.machine_meaning.specs.Steps.{MayStep}
use Rattle.checked.specs.Kept.{KeptSummaries}
use Rattle.interleave_core.specs.declared.event.CoreEvent.{CoreEvent}
use Rattle.interleave_core.specs.declared.window.WindowJob.{WindowJob}
use Rattle.interleave_core.specs.Cores.{Core}
use Rattle.interleave_core.specs.Runs.{Runs, Setting}

-- the entry of the job has a summary
abbrev pub HasSummary : KeptSummaries → JobStart → Type 0
HasSummary kept start = start.job.entry < length kept.summaries

-- the entry of the job has a summary, and code
pub record HasEntry (code : Code) (kept : KeptSummaries) (start : JobStart) : Type 0 where
  pub summary : HasSummary kept start
  pub address : start.job.entry < length code.entries

-- the forlopp of the job is none or live, and what its retirement stores to are words
pub record MayRetire (x : Exchange) (job : WindowJob) (s : State) (words : List ℕ) : Type 0 where
  pub forlopp : MayBe s job.start.job.forlopp
  pub stores : MayStore (is_word_of words) (retired_world x job.start
      (done_of job.run.own job.run.over) s words).trace

-- each event that is allowed in the core can be made: the next job can be tested and begun; each
-- job of the window can be tested and, if it has not ended, make its next instruction; and the
-- oldest can retire, if it has ended, from books that stand for the state, whatever they have for
-- words
pub record IsSafe (x : Exchange) (code : Code) (kept : KeptSummaries) (c : Core) : Type 0 where
  pub pick : (start : JobStart) → next_start c.state ≡ Some start → HasEntry code kept start
  pub tests : AllByRecursion (λ (job : WindowJob). HasSummary kept job.start) c.window
  pub steps : (place : ℕ) (job : WindowJob) → slice_get c.window place ≡ Some job
      → job.run.over ≡ None → MayStep code.ops (is_word_of c.state.store) (is_word_of c.state.store)
      job.run
  pub retires : (oldest : WindowJob) (younger : List WindowJob) (s : State)
      → c.window ≡ oldest ∷ younger → IsSome oldest.run.over → with_words s c.state.store ≡ c.state
      → MayRetire x oldest s c.state.store

-- whatever events happen from here, each as it is allowed, the core to which they lead is such
abbrev pub StaysSafe : Setting → Core → Type 0
StaysSafe k c = (events : List CoreEvent) (d : Core) → Runs k events c d
    → IsSafe k.exchange k.code k.kept d
