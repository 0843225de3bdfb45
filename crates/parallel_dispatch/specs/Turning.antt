-- The events by which the oldest job of a window runs from its start to its end and retires.
use Rattle.std.specs.Prelude.{ℕ, zero, suc, List, [], ◌∷◌, ◌++◌}
use Rattle.job_types.specs.declared.job.JobStart.{JobStart}
use Rattle.machine_meaning.specs.Machine.{Machine}
use Rattle.interleave_core.specs.declared.event.CoreEvent.{CoreEvent}
use Rattle.interleave_core.specs.declared.event.CoreEvent.TheVariants.{Issue, Step, Retire}
use Rattle.interleave_core.specs.declared.window.WindowJob.{WindowJob}
use Rattle.interleave_core.specs.Cores.{Core}

-- this many instructions of this job, one after the other
abbrev pub so_many_steps : ℕ → ℕ → List CoreEvent
so_many_steps zero job = []
so_many_steps (suc n) job = Step job ∷ so_many_steps n job

-- these instructions, and then the job's retirement
abbrev pub turn_of : ℕ → ℕ → List CoreEvent
turn_of n job = so_many_steps n job ++ Retire ∷ []

-- how many of these events are instructions
abbrev pub steps_in : List CoreEvent → ℕ
steps_in [] = 0
steps_in (Step job ∷ events) = suc (steps_in events)
steps_in (Issue ∷ events) = steps_in events
steps_in (Retire ∷ events) = steps_in events

-- the state of the core of events in which the oldest job has come to this machine state, with its
-- words
abbrev pub at_machine : Core → JobStart → List WindowJob → Machine → Core
at_machine c start younger m = record c {
  state = record c.state { store = m.world.store };
  window = record { start = start; run = m.run } ∷ younger;
}
