-- The number of instructions that jobs execute.
use Rattle.std.specs.Prelude.{◌≡◌, ℕ, suc, ◌+◌, ◌%◌, ◌^◌, List, Some}
use Rattle.job_types.specs.declared.job.JobStart.{JobStart}
use Rattle.machine_code.specs.Coded.{Code}
use Rattle.exchange_model.specs.declared.exchange.Exchange.{Exchange}
use Rattle.source_meaning.specs.SingleRun.{after, next_start}
use Rattle.source_meaning.specs.State.{State}
use Rattle.machine_meaning.specs.Faithful.{Ends, begun, started}
use Rattle.machine_meaning.specs.Machine.{Machine}

-- the code runs this start to its end, alone on these words, in this many instructions, modulo 2^64
pub record RunMakes (code : Code) (start : JobStart) (words : List ℕ) (made : ℕ) : Type 0 where
  pub end : Machine
  pub ends : Ends code.ops (begun (started code start) words) end
  pub made_is : made ≡ end.run.made

-- the same for the next job of this state, on the state's words
pub record JobMakes (code : Code) (s : State) (made : ℕ) : Type 0 where
  pub start : JobStart
  pub next : next_start s ≡ Some start
  pub runs : RunMakes code start s.store made

-- the first n jobs of the single run from this first state execute this many instructions in total,
-- modulo 2^64
pub data AllMake (x : Exchange) (code : Code) (first : State) : ℕ → ℕ → Type 0 where
  NoJob : AllMake x code first 0 0
  OneMore : (n total made : ℕ) → AllMake x code first n total → JobMakes code (after x first n) made
      → AllMake x code first (suc n) ((total + made) % 2 ^ 64)
