-- The state of the core, and what each event makes of it.
--
-- The jobs of the window share the words of one state. Those that have retired are in that state as
-- they are in the single run's, and those of the window wait no more in it. So each event is one
-- change of this state and of the window.
use Rattle.std.specs.Prelude.{◌≡◌, ℕ, ◌+◌, List, [], ◌∷◌, ◌++◌, length, slice_set}
use Rattle.job_types.specs.declared.job.JobStart.{JobStart}
use Rattle.job_types.specs.Own.{done_of}
use Rattle.machine_code.specs.Coded.{Code}
use Rattle.exchange_model.specs.declared.exchange.Exchange.{Exchange}
use Rattle.source_meaning.specs.State.{State}
use Rattle.source_meaning.specs.Arrivals.{arrivals}
use Rattle.source_meaning.specs.Retirement.{retires}
use Rattle.source_meaning.specs.SingleRun.{begun}
use Rattle.run_books.specs.Accounts.{Account, with_words}
use Rattle.machine_meaning.specs.Machine.{stepped}
use Rattle.machine_meaning.specs.Faithful.{started}
use Rattle.interleave_core.specs.declared.window.WindowJob.{WindowJob}
use Rattle.interleave_core.specs.declared.window.CoreState.{CoreState}
use Rattle.interleave_core.specs.declared.window.RunningCore.{RunningCore}

-- a state, whose words the jobs share; after how many jobs the run ends; the jobs that were issued
-- and have not retired, in the order of issue; and how many have retired since the events began
pub record Core : Type 0 where
  pub state : State
  pub limit : ℕ
  pub window : List WindowJob
  pub retired : ℕ

-- how many jobs have ended, or stand in the window
abbrev pub begun_jobs : Core → ℕ
begun_jobs c = c.state.ended + length c.window

-- ## What an event makes of the core

-- a job of this start is issued: it waits no more, and stands last in the window, before its first
-- instruction
abbrev pub issues : Code → JobStart → Core → Core
issues code start c = record c {
  state = begun c.state;
  window = c.window ++ record { start = start; run = started code start } ∷ [];
}

-- the job at this place of the window makes one instruction on the words
abbrev pub steps : Code → ℕ → WindowJob → Core → Core
steps code place job c =
    let m = stepped code.ops job.run c.state.store in
    record c {
      state = record c.state { store = m.world.store };
      window = slice_set c.window place (record { start = job.start; run = m.run });
    }

-- what is due arrives where no job runs any more
abbrev pub settles : Exchange → List WindowJob → State → State
settles x [] s = arrivals x s
settles x (job ∷ rest) s = s

-- the oldest job retires, and these are left in the window
abbrev pub lets_go : Exchange → WindowJob → List WindowJob → Core → Core
lets_go x oldest younger c = record c {
  state = settles x younger (retires x oldest.start (done_of oldest.run.own oldest.run.over)
      c.state);
  window = younger;
  retired = c.retired + 1;
}

-- ## The core of books and words

-- that of these books, words and window, after so many retirements
abbrev pub core_of : Account → List ℕ → List WindowJob → ℕ → Core
core_of b words window retired =
    record { state = with_words b.state words; limit = b.limit; window = window; retired = retired }

-- before the first event
abbrev pub opened_core : Account → List ℕ → Core
opened_core b words = core_of b words [] 0

-- while events happen
abbrev pub running_core : RunningCore → Core
running_core r = core_of r.books r.words r.window.items r.retired

-- the core stands in books, words and window, and the books count each job of the window as one
-- that runs
pub record Stands (c : Core) (s : CoreState) : Type 0 where
  pub core : c ≡ core_of s.books s.words s.window c.retired
  pub running : s.books.running ≡ length s.window
