-- What the sends of a job change of a state, and the room that they take.
use Rattle.std.specs.Prelude.{◌≡◌, ℕ, ◌+◌, ◌≤◌, List, length}
use Rattle.job_buffers.specs.Room.{Room}
use Rattle.job_types.specs.Forlopps.{ChainMap, chain_at}
use Rattle.job_types.specs.Waiting.{Waiting, count_of, waiting_count}
use Rattle.source_meaning.specs.State.{Release, Restart, RunEvent, State}
use Rattle.run_books.specs.declared.event.Faulty.{Faulty}

-- the state with these jobs that wait, these events and this next new number
abbrev pub with_traffic : Waiting → List RunEvent → ℕ → State → State
with_traffic waiting events next s = record s { waiting = waiting; events = events; next = next }

-- where so many jobs have ended, sends lead from these jobs that wait, events and next new number
-- to those
abbrev pub Leads : ℕ → (State → State) → (State → State) → (State → State) → Type 0
Leads ended sends before after = (s : State) → s.ended ≡ ended → sends (before s) ≡ after s

-- a release by this fault, with the jobs and the records of its forlopp
abbrev pub release_of : ℕ → Faulty → Waiting → ChainMap → RunEvent
release_of forlopp f w chains =
    Release forlopp f.job f.fault f.point (count_of forlopp w) (length (chain_at chains forlopp))

-- a restart by this fault, with all jobs and so many records
abbrev pub restart_of : Faulty → Waiting → ℕ → RunEvent
restart_of f w records = Restart f.job f.fault f.point (waiting_count w) records

-- there is room for so many more jobs at each level
pub record HasRoom (n : ℕ) (r : Room) : Type 0 where
  pub a : n ≤ r.a
  pub b : n ≤ r.b
  pub c : n ≤ r.c
  pub d : n ≤ r.d

-- no level has lost room for more than one job
pub record LosesOne (old new : Room) : Type 0 where
  pub a : old.a ≤ new.a + 1
  pub b : old.b ≤ new.b + 1
  pub c : old.c ≤ new.c + 1
  pub d : old.d ≤ new.d + 1
