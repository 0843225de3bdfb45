use Rattle.std.proofs.Common.{length}
use Rattle.report_text.proofs.Counts.{Tallies}
use Rattle.report_text.proofs.load.tally_of.Given as goal

abbrev pub invariant-loop-event : goal.invariant-loop-event
invariant-loop-event l = Tallies l.tally l.left l.fn.events

abbrev pub decreases-loop-event : goal.decreases-loop-event
decreases-loop-event l = length l.left
