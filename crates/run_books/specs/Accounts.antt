-- What contracts see of the books: a state whose words stand elsewhere, how many jobs run, and how
-- many may end.
use Rattle.std.specs.Prelude.{◌≡◌, ℕ, ◌+◌, ◌*◌, ◌<◌, ◌≤◌, ◌^◌, nat_lt, Bool, false, List, [], ◌∷◌}
use Rattle.std.specs.Prelude.{◌++◌, length, Option, Some, None, unwrap_or, Result, MatchResult}
use Rattle.std.specs.Prelude.{if◌then◌else◌}
use Rattle.plex_limits.specs.declared.limits.TheConstants.{MOST_CELLS, MOST_JOBS, MOST_SENT}
use Rattle.std.specs.FinMap as map
use Rattle.job_types.specs.Forlopps.{ChainMap, Dead, is_dead, none_dead}
use Rattle.job_types.specs.Waiting.{Waiting, joins, nobody}
use Rattle.job_types.specs.declared.job.Job.{Job}
use Rattle.job_types.specs.declared.job.JobStart.{JobStart}
use Rattle.exchange_model.specs.declared.exchange.Exchange.{Exchange}
use Rattle.forlopp_chain.specs.Chains.{AreBelow}
use Rattle.source_meaning.specs.State.{Coming, Lost, Origin, RunEvent, State}
use Rattle.source_meaning.specs.Arrivals.{arrivals, arrives, forlopp_for, is_due}
use Rattle.exchange_model.specs.Names.{level_of}
use Rattle.source_meaning.specs.SingleRun.{begun, next_start}
use Rattle.run_books.specs.Lines.{Timetable}

-- a state, of whose words nothing is said; how many jobs run; and after how many jobs the run ends
pub record Account : Type 0 where
  pub state : State
  pub running : ℕ
  pub limit : ℕ

-- the state with the words that stand beside the books
abbrev pub with_words : State → List ℕ → State
with_words s words = record s { store = words }

-- what holds of the books at every moment: each job that has ended brought one restart, one chain
-- and 255 new numbers at the most, beside what the books began with
pub record IsKept (b : Account) : Type 0 where
  pub few : b.limit ≤ MOST_JOBS
  pub within : b.state.ended + b.running ≤ b.limit
  pub restarts : b.state.restarts ≤ 2 ^ 32 + b.state.ended
  pub some : 1 ≤ b.state.next
  pub next : b.state.next ≤ 1 + length b.state.arrived + MOST_SENT * b.state.ended
  pub lines : length b.state.arrived + length b.state.lines < 2 ^ 32
  pub below : AreBelow b.state.chains b.state.next
  pub chains : map.len b.state.chains ≤ MOST_CELLS + b.state.ended

-- the account of these parts
abbrev pub account : Timetable → Waiting → ChainMap → Dead → List RunEvent
    → (next ended restarts running limit : ℕ) → Account
account t waiting chains dead events next ended restarts running limit = record {
  state = record {
    store = [];
    waiting = waiting;
    chains = chains;
    dead = dead;
    next = next;
    ended = ended;
    restarts = restarts;
    events = events;
    lines = t.lines;
    arrived = t.arrived;
  };
  running = running;
  limit = limit;
}

-- the books before the first line has arrived: with the opening store, this is the opening
abbrev pub opened : List Coming → ℕ → Account
opened lines limit = account (record { lines = lines; arrived = [] }) nobody map.empty none_dead []
    1 0 0 0 limit

-- the start of the next job, where the limit lets one more begin
abbrev pub upcoming : Account → Option JobStart
upcoming b = (if nat_lt (b.state.ended + b.running) b.limit then next_start b.state else None)

-- the next job, if there is one, has begun, and is one of those that run
abbrev pub after_start : Option JobStart → Account → Account
after_start None b = b
after_start (Some start) b = record b { state = begun b.state; running = b.running + 1 }

-- the state after the next line, where that is due
abbrev pub line_arrives : Exchange → List Coming → State → Option State
line_arrives x [] s = None
line_arrives x (l ∷ rest) s = (if is_due l s then Some (arrives x l rest s) else None)

-- the job of a line that arrives
abbrev pub job_of : Exchange → Coming → State → Job
job_of x l s = record {
  entry = l.entry;
  level = level_of x l.entry;
  values = l.values;
  forlopp = forlopp_for l.origin s;
}

-- the next line of a state, before these: its number, where its forlopp comes from, and its job
pub record IsLine (x : Exchange) (l : Coming) (rest : List Coming) (number : ℕ) (origin : Origin)
    (job : Job) (s : State) : Type 0 where
  pub next : s.lines ≡ l ∷ rest
  pub numbered : number ≡ l.number
  pub from : origin ≡ l.origin
  pub begins : job ≡ job_of x l s

-- whether the next line is due
abbrev pub is_next_due : List Coming → State → Bool
is_next_due [] s = false
is_next_due (l ∷ rest) s = is_due l s

-- the books after the next line, where that is due
abbrev pub after_arrival : Exchange → Account → Account
after_arrival x b = record b { state = unwrap_or (line_arrives x b.state.lines b.state) b.state }

-- the next line has arrived, if it was due; where memory was refused, nothing has changed
abbrev pub TellsArrival : {E : Type 0} → Exchange → Account → Account → Result Bool E → Type 0
TellsArrival x old new told = MatchResult told
    (λ due. (due ≡ is_next_due old.state.lines old.state) × (new ≡ after_arrival x old))
    (λ _. new ≡ old)

-- the next line has arrived, which has this number and this job; where memory was refused, nothing
-- has changed
abbrev pub TakesLine : {A E : Type 0} → ℕ → Origin → Job → Account → Account → Result A E → Type 0
TakesLine number origin job old new told = MatchResult told
    (λ _. (x : Exchange) (l : Coming) (rest : List Coming)
    → IsLine x l rest number origin job old.state
    → new ≡ record old { state = arrives x l rest old.state }) (λ _. new ≡ old)

-- a job of a line joins those that wait, unless its forlopp is dead
abbrev pub admitted : Dead → Job → Waiting → Waiting
admitted dead job w = (if is_dead dead job.forlopp then w else joins job w)

-- the line of a job whose forlopp is dead is lost
abbrev pub with_loss : Dead → Job → ℕ → List RunEvent → List RunEvent
with_loss dead job number es = (if is_dead dead job.forlopp then es ++ Lost number ∷ [] else es)

-- the events have been told, and the books have none
abbrev pub untold : Account → Account
untold b = record b { state = record b.state { events = [] } }

-- the books after all lines that are due
abbrev pub after_arrivals : Exchange → Account → Account
after_arrivals x b = record b { state = arrivals x b.state }

-- all lines that are due have arrived; where memory was refused, some of them have, and the others
-- are still to come
abbrev pub LetsArrive : {A E : Type 0} → Exchange → Account → Account → Result A E → Type 0
LetsArrive x old new told = MatchResult told (λ _. new ≡ after_arrivals x old)
    (λ _. after_arrivals x new ≡ after_arrivals x old)

-- for how many ended jobs the next line waits
abbrev pub next_count : List Coming → Option ℕ
next_count [] = None
next_count (l ∷ rest) = Some l.after
