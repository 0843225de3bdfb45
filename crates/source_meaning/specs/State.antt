-- An exchange between two jobs: the stored words, who waits, which forlopp holds what, and what has
-- left the exchange.
--
-- Events are plain data. A line of the signal file is a `Coming`. The forlopp of a line is kept
-- beside the line when it has arrived, a lost one too, so that a later line of the same forlopp is
-- lost as well.
use Rattle.std.specs.Prelude.{ℕ, zero, suc, nat_le, Bool, List, []}
use Rattle.plex_limits.specs.declared.limits.TheConstants.{MOST_RESTARTS}
use Rattle.job_types.specs.declared.chain.Held.{Held}
use Rattle.job_types.specs.declared.fault.Fault.{Fault}
use Rattle.job_types.specs.Forlopps.{ChainMap, Dead, chain_at}
use Rattle.job_types.specs.Waiting.{Waiting}

-- what leaves the exchange, and what happens to forlopps, in order: by which job, as the number of
-- jobs that have ended with it; a release tells the forlopp, a restart has none; both tell the
-- fault, its point, how many waiting jobs were removed and how many records were freed
pub data RunEvent : Type 0 where
  Out : (number signal : ℕ) (values : List ℕ) (forlopp : ℕ) → RunEvent
  Release : (forlopp number : ℕ) (fault : Fault) (point jobs records : ℕ) → RunEvent
  Lost : (line : ℕ) → RunEvent
  Restart : (number : ℕ) (fault : Fault) (point jobs records : ℕ) → RunEvent

-- the forlopp of a line: a new one, none, or that of an earlier line
pub data Origin : Type 0 where
  Fresh : Origin
  Bare : Origin
  Same : (line : ℕ) → Origin

-- a line of the signal file, by its number there: when it comes, at which entry, with which values
pub record Coming : Type 0 where
  pub number : ℕ
  pub after : ℕ
  pub entry : ℕ
  pub values : List ℕ
  pub origin : Origin

-- a line that has arrived, and the forlopp that it got
pub record Arrived : Type 0 where
  pub line : Coming
  pub forlopp : ℕ

-- an exchange between two jobs: the stored words, the jobs that wait, the chain of each forlopp,
-- the dead numbers, the next new number, how many jobs have ended, how many restarts came, the
-- events so far, the lines that have not arrived, and those that have
pub record State : Type 0 where
  pub store : List ℕ
  pub waiting : Waiting
  pub chains : ChainMap
  pub dead : Dead
  pub next : ℕ
  pub ended : ℕ
  pub restarts : ℕ
  pub events : List RunEvent
  pub lines : List Coming
  pub arrived : List Arrived

-- the last restart has come: no job is picked and no line arrives any more
abbrev pub has_stopped : State → Bool
has_stopped s = nat_le MOST_RESTARTS s.restarts

-- the chain of a forlopp; no forlopp has none
abbrev pub chain_in : State → ℕ → List Held
chain_in s zero = []
chain_in s (suc n) = chain_at s.chains (suc n)
