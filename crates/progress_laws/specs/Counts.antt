-- How many instructions the jobs of the single run make.
--
-- They are counted as they are: no count is taken modulo anything.
use Rattle.std.specs.Prelude.{◌≡◌, ℕ, zero, suc, ◌+◌, ◌*◌, ◌<◌, List, Some, None, IsSome}
use Rattle.job_types.specs.declared.job.JobStart.{JobStart}
use Rattle.machine_code.specs.Coded.{Code}
use Rattle.exchange_model.specs.declared.exchange.Exchange.{Exchange}
use Rattle.source_meaning.specs.SingleRun.{after, ending_at, jobs_at_end, next_start}
use Rattle.source_meaning.specs.State.{State}
use Rattle.run_books.specs.Accounts.{Account, with_words}
use Rattle.interleave_core.specs.Follows.{own_run}

-- the job of this start, alone on these words, is over after so many instructions, and not before
pub record EndsAfter (code : Code) (start : JobStart) (words : List ℕ) (count : ℕ) : Type 0 where
  pub over : IsSome (own_run code start count words).run.over
  pub runs : (n : ℕ) → n < count → (own_run code start n words).run.over ≡ None

-- the single run is not over in this state, and its next job makes so many instructions, alone on
-- the words of the state
pub record NextMakes (code : Code) (limit : ℕ) (s : State) (count : ℕ) : Type 0 where
  pub goes_on : ending_at limit s ≡ None
  pub start : JobStart
  pub next : next_start s ≡ Some start
  pub ends : EndsAfter code start s.store count

-- the jobs before this state, of which this is said, and its next job make so many instructions in
-- all
pub record OneMore (code : Code) (limit : ℕ) (s : State) (Before : ℕ → Type 0) (total : ℕ) : Type
    0 where
  pub before : ℕ
  pub made : Before before
  pub count : ℕ
  pub next : NextMakes code limit s count
  pub sum : total ≡ before + count

-- so many jobs of the single run from this first state, each alone in its turn, make so many
-- instructions in all
abbrev pub JobsMake : Exchange → Code → ℕ → State → ℕ → ℕ → Type 0
JobsMake x code limit first zero total = total ≡ 0
JobsMake x code limit first (suc n) total =
    OneMore code limit (after x first n) (JobsMake x code limit first n) total

-- how many jobs the single run has from these books and words to its end
abbrev pub jobs_of_run : Exchange → Account → List ℕ → ℕ
jobs_of_run x b words = jobs_at_end x b.limit (with_words b.state words)

-- so many instructions they make in all
abbrev pub RunMakes : Exchange → Code → Account → List ℕ → ℕ → Type 0
RunMakes x code b words instructions =
    JobsMake x code b.limit (with_words b.state words) (jobs_of_run x b words) instructions

-- there is such a number
pub record HasInstructions (x : Exchange) (code : Code) (b : Account) (words : List ℕ) : Type
    0 where
  pub instructions : ℕ
  pub made : RunMakes x code b words instructions

-- each job is issued once and retires once, and each instruction is made once
abbrev pub events_of : (jobs instructions : ℕ) → ℕ
events_of jobs instructions = 2 * jobs + instructions
