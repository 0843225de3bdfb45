-- What one turn of the single run adds to the jobs that a filter shows.
use Rattle.std.specs.Prelude.{ℕ, List, [], ◌∷◌, ◌++◌, if◌then◌else◌}
use Rattle.std.specs.Option.{option_map_or}
use Rattle.exchange_model.specs.declared.exchange.Exchange.{Exchange}
use Rattle.job_types.specs.declared.job.JobStart.{JobStart}
use Rattle.job_types.specs.declared.outcome.JobDone.{JobDone}
use Rattle.source_meaning.specs.State.{State}
use Rattle.signal_trace.specs.declared.show.Show.{Show}
use Rattle.signal_trace.specs.declared.tracer.TracedJob.{TracedJob}
use Rattle.signal_trace.specs.declared.tracer.Tracer.{Tracer}
use Rattle.signal_trace.specs.Text.{trace_text}
use Rattle.signal_trace.specs.Trace.{is_shown, next_job, traced}

-- a job, if some line shows it
abbrev pub one_if_shown : Exchange → List Show → TracedJob → List TracedJob
one_if_shown x ls t = (if is_shown x ls t then t ∷ [] else [])

-- the job that begins in a state, if one does and some line shows it
abbrev pub shown_next : Exchange → List Show → State → List TracedJob
shown_next x ls s = option_map_or (one_if_shown x ls) (next_job x s) []

-- the jobs that are shown so far, once a tracer has been told of one more
abbrev pub told : Tracer → Exchange → ℕ → JobStart → JobDone → Tracer
told t x number start done = record t {
  text = t.text
      ++ trace_text x (one_if_shown x t.shows.now (traced number start done));
}
