-- The events and the endings of the code, as the single run has them.
use Rattle.std.specs.Prelude.{ℕ, List}
use Rattle.source_meaning.specs.State as state
use Rattle.source_meaning.specs.SingleRun as run
use Rattle.run_books.specs.declared.event.ReportEvent.{ReportEvent}
use Rattle.run_books.specs.declared.event.ReportEvent.TheVariants.{Out, Release, Lost, Restart}
use Rattle.run_books.specs.declared.event.Ending.{Ending}
use Rattle.run_books.specs.declared.event.Ending.TheVariants.{Done, Restart as Restarted, Limit}

-- an event
abbrev pub event_of : ReportEvent → state.RunEvent
event_of (Out job signal values forlopp) = state.Out job signal values forlopp
event_of (Release forlopp f jobs records) = state.Release forlopp f.job f.fault f.point jobs records
event_of (Lost line) = state.Lost line
event_of (Restart f jobs records) = state.Restart f.job f.fault f.point jobs records

-- an ending
abbrev pub ending_of : Ending → run.Ending
ending_of Done = run.Finished
ending_of Restarted = run.Restarted
ending_of Limit = run.Limited

-- events, and for how many more there is room
pub record Logged : Type 0 where
  pub events : List state.RunEvent
  pub room : ℕ
