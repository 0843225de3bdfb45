-- Retirement: what the end of a job changes of an exchange.
--
-- The job counts as ended, its sends take effect in order, its chain becomes its forlopp's, and
-- then a fault takes effect: it releases the job's forlopp, and where there is none it restarts the
-- exchange. So a signal that a job sent before its fault joins its list first, and is removed with
-- the others.
use Rattle.std.specs.Prelude.{ℕ, zero, suc, ◌+◌, true, false, List, [], ◌∷◌, ◌++◌, length}
use Rattle.std.specs.Prelude.{slice_get, if◌then◌else◌}
use Rattle.std.specs.Option.{option_map_or}
use Rattle.std.specs.FinMap as map
use Rattle.job_types.specs.declared.chain.Held.{Held}
use Rattle.job_types.specs.declared.fault.Fault.{Fault}
use Rattle.job_types.specs.declared.job.JobStart.{JobStart}
use Rattle.job_types.specs.declared.outbox.Sent.{Sent}
use Rattle.job_types.specs.declared.outbox.SendTo.{SendTo}
use Rattle.job_types.specs.declared.outbox.SendTo.TheVariants.{Queue, Outside}
use Rattle.job_types.specs.declared.outcome.JobDone.{JobDone}
use Rattle.job_types.specs.declared.outcome.Outcome.{Outcome}
use Rattle.job_types.specs.declared.outcome.Outcome.TheVariants.{Ended, Faulted}
use Rattle.job_types.specs.Forlopps.{ChainMap, all_records, chain_at, dead_below, with_chain}
use Rattle.job_types.specs.Forlopps.{with_dead}
use Rattle.job_types.specs.Own.{World, untouched, writes}
use Rattle.job_types.specs.Waiting.{count_of, joins, nobody, others, waiting_count}
use Rattle.exchange_model.specs.declared.block.Block.{Block}
use Rattle.exchange_model.specs.declared.block.Variable.{Variable}
use Rattle.exchange_model.specs.declared.exchange.Exchange.{Exchange}
use Rattle.exchange_model.specs.Cells.{Placed, block_cells}
use Rattle.source_meaning.specs.Config.{files_of}
use Rattle.source_meaning.specs.Changes.{opens_record}
use Rattle.source_meaning.specs.State.{State, Out, Release, Restart}

-- sends

-- a send of a job takes effect: it leaves, joins its list in a new forlopp, or joins it in the
-- job's
abbrev pub delivered_to : SendTo → ℕ → List ℕ → State → State
delivered_to (Outside signal) forlopp values s =
    record s { events = s.events ++ Out s.ended signal values forlopp ∷ [] }
delivered_to (Queue entry level true) forlopp values s =
    record s {
      next = s.next + 1;
      waiting = joins
          (record { entry = entry; level = level; values = values; forlopp = s.next }) s.waiting;
    }
delivered_to (Queue entry level false) forlopp values s =
    record s {
      waiting = joins (record {
        entry = entry;
        level = level;
        values = values;
        forlopp = forlopp;
      }) s.waiting;
    }

abbrev pub delivered : ℕ → Sent → State → State
delivered forlopp m s = delivered_to m.to forlopp m.values s

abbrev pub all_delivered : ℕ → List Sent → State → State
all_delivered forlopp [] s = s
all_delivered forlopp (m ∷ rest) s = all_delivered forlopp rest (delivered forlopp m s)

-- the job's chain is its forlopp's
abbrev pub keeps_chain : ℕ → List Held → State → State
keeps_chain zero chain s = s
keeps_chain (suc n) chain s = record s { chains = with_chain s.chains (suc n) chain }

-- release

-- a record gets its INIT values and is marked free
abbrev pub opened : List Placed → Held → World → World
opened files h w = option_map_or (λ p. opens_record p h.number w) (slice_get files h.file) w

abbrev pub all_opened : List Placed → List Held → World → World
all_opened files [] w = w
all_opened files (h ∷ rest) w = all_opened files rest (opened files h w)

-- the words of a release: those of the records of the chain
abbrev pub release_world : Exchange → List Held → World → World
release_world x chain w = all_opened (files_of x) chain w

-- the forlopp ends: its jobs and records go, its number is dead
abbrev pub releases : Exchange → ℕ → Fault → ℕ → State → State
releases x forlopp f point s = record s {
  waiting = others forlopp s.waiting;
  store = (release_world x (chain_at s.chains forlopp) (untouched s.store)).store;
  chains = with_chain s.chains forlopp [];
  dead = with_dead s.dead forlopp;
  events = s.events ++ Release forlopp s.ended f point (count_of forlopp s.waiting)
      (length (chain_at s.chains forlopp)) ∷ [];
}

-- restart

-- the CLEAR variables among these, the first of which has this cell, get their INIT values
abbrev pub cleared : ℕ → List Variable → World → World
cleared cell [] w = w
cleared cell (v ∷ rest) w = cleared (cell + 1) rest (if v.clear then writes cell v.init w else w)

-- those of these blocks, the first of which begins at this cell
abbrev pub all_cleared : ℕ → List Block → World → World
all_cleared cell [] w = w
all_cleared cell (k ∷ rest) w = all_cleared (cell + block_cells k) rest (cleared cell k.variables w)

-- the words of a restart: those of the records of all chains, and of the CLEAR variables
abbrev pub restart_world : Exchange → ChainMap → World → World
restart_world x chains w = all_cleared 0 x.blocks (all_opened (files_of x) (all_records chains) w)

-- no job waits any more, no record is held, and every number that was drawn is dead
abbrev pub begins_anew : Exchange → Fault → ℕ → State → State
begins_anew x f point s = record s {
  waiting = nobody;
  store = (restart_world x s.chains (untouched s.store)).store;
  chains = map.empty;
  dead = dead_below s.dead s.next;
  restarts = s.restarts + 1;
  events = s.events ++ Restart s.ended f point (waiting_count s.waiting)
      (length (all_records s.chains)) ∷ [];
}

-- the retirement of a job

-- a fault takes effect: in a forlopp it is released, and without one the exchange begins anew
abbrev pub with_outcome : Exchange → ℕ → Outcome → State → State
with_outcome x forlopp Ended s = s
with_outcome x zero (Faulted f point) s = begins_anew x f point s
with_outcome x (suc n) (Faulted f point) s = releases x (suc n) f point s

-- the job counts as ended, its sends take effect, and its chain is kept
abbrev pub with_sends : JobStart → JobDone → State → State
with_sends start done s = keeps_chain start.job.forlopp done.chain
    (all_delivered start.job.forlopp done.sends (record s { ended = s.ended + 1 }))

-- a job retires
abbrev pub retires : Exchange → JobStart → JobDone → State → State
retires x start done s = with_outcome x start.job.forlopp done.outcome (with_sends start done s)
