-- What each function that makes an event leaves. No contract that a caller sees cites these words.
use Rattle.std.specs.Prelude.{◌≡◌, ℕ, ◌+◌, ◌<◌, Bool, true, false, List, ◌∷◌, length, slice_get}
use Rattle.std.specs.Prelude.{slice_set, Some, None, IsSome}
use Rattle.job_types.specs.declared.job.JobStart.{JobStart}
use Rattle.job_types.specs.Own.{done_of}
use Rattle.machine_code.specs.Coded.{Code}
use Rattle.machine_code.specs.declared.op.Op.{Op}
use Rattle.machine_code.specs.Listed.{is_word_of}
use Rattle.exchange_model.specs.declared.exchange.Exchange.{Exchange}
use Rattle.source_meaning.specs.Retirement.{retires}
use Rattle.source_meaning.specs.SingleRun.{next_start}
use Rattle.run_books.specs.Accounts.{with_words}
use Rattle.machine_meaning.specs.Machine.{stepped}
use Rattle.machine_meaning.specs.Steps.{MayStep}
use Rattle.interleave_core.specs.declared.event.CoreEvent.{CoreEvent}
use Rattle.interleave_core.specs.declared.event.CoreEvent.TheVariants.{Issue, Step, Retire}
use Rattle.interleave_core.specs.declared.window.RunningCore.{RunningCore}
use Rattle.interleave_core.specs.declared.window.WindowJob.{WindowJob}
use Rattle.interleave_core.specs.Cores.{Core, running_core}
use Rattle.interleave_core.specs.Runs.{Allows, Setting, core_after}
use Rattle.interleave_core.specs.Safe.{MayRetire}

-- this core stands there, and the books count each job of the window as one that runs
pub record Becomes (c : Core) (r : RunningCore) : Type 0 where
  pub core : running_core r ≡ c
  pub running : r.books.running ≡ length r.window.items

-- the event was allowed, and was made
pub record HasMade (k : Setting) (c : Core) (e : CoreEvent) (r : RunningCore) : Type 0 where
  pub can : Allows k c e
  pub becomes : Becomes (core_after k c e can) r

-- whether the event was made, which it is where it is allowed
abbrev pub Happened : Setting → Core → CoreEvent → Bool → RunningCore → Type 0
Happened k c e false r = Allows k c e → ⊥
Happened k c e true r = HasMade k c e r

-- the job has not ended, and may make its next instruction on these words
pub record Steppable (code : List Op) (words : List ℕ) (job : WindowJob) : Type 0 where
  pub runs : job.run.over ≡ None
  pub may : MayStep code (is_word_of words) (is_word_of words) job.run

-- the code has an address for the next job
abbrev pub CanBegin : Code → RunningCore → Type 0
CanBegin code r = (start : JobStart) → next_start r.books.state ≡ Some start
    → start.job.entry < length code.entries

-- the job of this number may make its next instruction
abbrev pub CanGoOn : Code → RunningCore → ℕ → Type 0
CanGoOn code r number = (place : ℕ) (job : WindowJob) → r.retired + place + 1 ≡ number
    → slice_get r.window.items place ≡ Some job → Steppable code.ops r.words job

-- the oldest job has ended, and may retire
abbrev pub CanGo : Exchange → RunningCore → Type 0
CanGo x r = (oldest : WindowJob) (younger : List WindowJob) → r.window.items ≡ oldest ∷ younger
    → IsSome oldest.run.over × MayRetire x oldest r.books.state r.words

-- what is asked where an event is made
abbrev pub CanMake : Exchange → Code → RunningCore → CoreEvent → Type 0
CanMake x code r Issue = CanBegin code r
CanMake x code r (Step job) = CanGoOn code r job
CanMake x code r Retire = CanGo x r

-- the job at this place has made it
pub record HasStepped (code : List Op) (place : ℕ) (job : WindowJob)
    (window window' : List WindowJob) (words words' : List ℕ) : Type 0 where
  pub window_is : window' ≡ slice_set window place
      (record { start = job.start; run = (stepped code job.run words).run })
  pub words_are : words' ≡ (stepped code job.run words).world.store

-- the oldest job has retired, and these are left
pub record HasLeft (x : Exchange) (oldest : WindowJob) (younger : List WindowJob)
    (old new : RunningCore) : Type 0 where
  pub state : with_words new.books.state new.words
      ≡ retires x oldest.start (done_of oldest.run.own oldest.run.over)
      (with_words old.books.state old.words)
  pub limit : new.books.limit ≡ old.books.limit
  pub running : new.books.running + 1 ≡ old.books.running
  pub window : new.window.items ≡ younger
  pub retired : new.retired ≡ old.retired + 1
