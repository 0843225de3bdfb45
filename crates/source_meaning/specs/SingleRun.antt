-- The single run: one job after the other, each run to its end and retired before the next one is
-- picked.
--
-- A turn has two halves, the start of the next job and the retirement of its end, so that whoever
-- keeps several jobs at once can speak of each half alone.
use Rattle.std.specs.Prelude.{ℕ, zero, suc, ◌+◌, nat_le, is_some, List, [], position, Option, Some}
use Rattle.std.specs.Prelude.{None, unwrap_or, if◌then◌else◌}
use Rattle.std.specs.List.{range_with_len}
use Rattle.std.specs.Option.{option_map, option_map_or}
use Rattle.std.specs.FinMap as map
use Rattle.job_types.specs.declared.job.Job.{Job}
use Rattle.job_types.specs.declared.job.JobStart.{JobStart}
use Rattle.job_types.specs.Forlopps.{none_dead}
use Rattle.job_types.specs.Own.{done_of}
use Rattle.job_types.specs.Waiting.{after_pick, nobody, pick}
use Rattle.exchange_model.specs.declared.exchange.Exchange.{Exchange}
use Rattle.exchange_model.specs.Opening.{opening_store}
use Rattle.source_meaning.specs.Config.{Config}
use Rattle.source_meaning.specs.Job.{job}
use Rattle.source_meaning.specs.State.{State, Coming, chain_in, has_stopped}
use Rattle.source_meaning.specs.Retirement.{retires}
use Rattle.source_meaning.specs.Arrivals.{arrivals, is_quiet}

-- what a job that is picked starts with
abbrev pub start_of : Job → State → JobStart
start_of j s = record { job = j; chain = chain_in s j.forlopp }

-- the start of the next job, where one waits and the last restart has not come
abbrev pub next_start : State → Option JobStart
next_start s = (if has_stopped s then None else option_map (λ j. start_of j s) (pick s.waiting))

-- the next job has begun: it waits no more
abbrev pub begun : State → State
begun s = record s { waiting = after_pick s.waiting }

-- a job of this start has come to this end, which retires
abbrev pub ended_as : Exchange → JobStart → Config → State → State
ended_as x start end s =
    retires x start (done_of end.own end.over) (record s { store = end.world.store })

-- the next job, if there is one, runs on the stored words and retires, and what is due arrives
abbrev pub turn : Exchange → State → State
turn x s = option_map_or (λ start. arrivals x (ended_as x start (job x start s.store) (begun s)))
    (next_start s) s

-- the state after so many jobs
unfoldable pub after : Exchange → State → ℕ → State
after x s zero = arrivals x s
after x s (suc n) = turn x (after x s n)

-- before the first line has arrived: each variable and field has its INIT value, and no record is
-- held
abbrev pub opening : Exchange → List Coming → State
opening x lines = record {
  store = opening_store x.blocks;
  waiting = nobody;
  chains = map.empty;
  dead = none_dead;
  next = 1;
  ended = 0;
  restarts = 0;
  events = [];
  lines = lines;
  arrived = [];
}

-- how a run ends
pub data Ending : Type 0 where
  Restarted : Ending
  Finished : Ending
  Limited : Ending

-- the run is over after the last restart, where nobody waits, or where so many jobs have ended
abbrev pub ending_at : ℕ → State → Option Ending
ending_at limit s = (if has_stopped s then Some Restarted
    else (if is_quiet s.waiting then Some Finished
    else (if nat_le limit s.ended then Some Limited else None)))

-- the first number of jobs after which the run is over, which is at most the limit
unfoldable pub jobs_at_end : Exchange → ℕ → State → ℕ
jobs_at_end x limit s = unwrap_or (position (λ n. is_some (ending_at limit (after x s n)))
    (range_with_len 0 (limit + 1))) limit

-- the state in which the single run ends
abbrev pub end_state : Exchange → ℕ → State → State
end_state x limit s = after x s (jobs_at_end x limit s)
