-- The jobs of the single run that a filter shows.
--
-- Jobs are numbered from 1, in the order in which they end. A line of a filter shows a job that
-- agrees with all that it names, and a filter shows what some line of it shows.
use Rattle.std.specs.Prelude.{ℕ, ◌+◌, nat_eq, nat_le, Bool, true, false, not, ◌&&◌, ◌||◌, List}
use Rattle.std.specs.Prelude.{Option, Some, None, slice_get}
use Rattle.std.specs.List.{filter, filter_map, list_any, range_with_len}
use Rattle.std.specs.Option.{option_map, option_map_or}
use Rattle.exchange_model.specs.declared.entry.Entry.{Entry}
use Rattle.exchange_model.specs.declared.exchange.Exchange.{Exchange}
use Rattle.job_types.specs.declared.job.JobStart.{JobStart}
use Rattle.job_types.specs.declared.outcome.JobDone.{JobDone}
use Rattle.job_types.specs.declared.outcome.Outcome.{Outcome}
use Rattle.job_types.specs.declared.outcome.Outcome.TheVariants.{Ended, Faulted}
use Rattle.source_meaning.specs.SingleRun.{after, end_state, next_start}
use Rattle.source_meaning.specs.State.{State}
use Rattle.exchange_run.specs.Runs.{left_by}
use Rattle.signal_trace.specs.declared.show.Show.{Show}
use Rattle.signal_trace.specs.declared.tracer.TracedJob.{TracedJob}

-- what a line shows

-- a number is the one that is named, if any
abbrev pub agrees : Option ℕ → ℕ → Bool
agrees None n = true
agrees (Some wanted) n = nat_eq wanted n

-- a job is not before the first one, if one is named
abbrev pub is_from : Option ℕ → ℕ → Bool
is_from None n = true
is_from (Some first) n = nat_le first n

-- a job is not behind the last one, if one is named
abbrev pub is_upto : Option ℕ → ℕ → Bool
is_upto None n = true
is_upto (Some last) n = nat_le n last

-- a job ended by a fault
abbrev pub is_fault : Outcome → Bool
is_fault Ended = false
is_fault (Faulted fault point) = true

-- a line shows a job of this entry and forlopp, of this number, that ended so: it is in the span,
-- and agrees with all that is named
abbrev pub shows : Entry → (forlopp number : ℕ) → Outcome → Show → Bool
shows e forlopp number outcome l =
    (is_from l.from number && is_upto l.upto number)
    && (agrees l.block e.block && (agrees l.signal e.signal
    && ((not l.faults || is_fault outcome) && agrees l.forlopp forlopp)))

-- some line shows a job of this number that started and ended so
abbrev pub shows_job : Exchange → List Show → ℕ → JobStart → Outcome → Bool
shows_job x ls number start outcome =
    option_map_or (λ e. list_any (shows e start.job.forlopp number outcome) ls)
    (slice_get x.entries start.job.entry) false

-- some line shows a job
abbrev pub is_shown : Exchange → List Show → TracedJob → Bool
is_shown x ls t = shows_job x ls t.number t.start t.outcome

-- the jobs of a run

-- a job of this number that started so and left this
abbrev pub traced : ℕ → JobStart → JobDone → TracedJob
traced number start done =
    record { number = number; start = start; sends = done.sends; outcome = done.outcome }

-- the job that begins in a state, if one does
abbrev pub next_job : Exchange → State → Option TracedJob
next_job x s = option_map (λ start. traced (s.ended + 1) start (left_by x start s.store))
    (next_start s)

-- the first jobs, so many, of the single run from a state: each begins in the state after those
-- before it
unfoldable pub first_jobs : Exchange → State → ℕ → List TracedJob
first_jobs x first n = filter_map (λ i. next_job x (after x first i)) (range_with_len 0 n)

-- all jobs of the single run from a state, which ends after so many jobs at the latest
abbrev pub full_trace : Exchange → ℕ → State → List TracedJob
full_trace x limit first = first_jobs x first (end_state x limit first).ended

-- those that some line shows
abbrev pub trace : Exchange → ℕ → State → List Show → List TracedJob
trace x limit first ls = filter (is_shown x ls) (full_trace x limit first)
