use Rattle.std.proofs.Common.{length}
use Rattle.report_text.specs.Report.{event_lines}
use Rattle.report_text.proofs.Lines.{Left}
use Rattle.report_text.proofs.events.add_events.Given as goal

abbrev pub invariant-loop-event : goal.invariant-loop-event
invariant-loop-event l = Left l.fn.text l.text (event_lines l.exchange l.left) (event_lines l.exchange l.fn.events)

abbrev pub decreases-loop-event : goal.decreases-loop-event
decreases-loop-event l = length l.left
