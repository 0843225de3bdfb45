use Rattle.std.proofs.Common.{◌+◌, ◌*◌, length}
use Rattle.fact_rows.specs.Known.{missing}
use Rattle.least_facts.specs.Growing.{Searches, search_of}
use Rattle.least_facts.specs.Marks.{marks_of, most_marks}
use Rattle.least_facts.proofs.finding.find.Given as goal

abbrev pub invariant-loop-point : goal.invariant-loop-point
invariant-loop-point l = Searches l.setting.exchange.now l.setting.table.now l.setting.entry (search_of l.rows l.marked)

abbrev pub decreases-loop-point : goal.decreases-loop-point
decreases-loop-point l = length (marks_of l.marked) + missing l.rows * most_marks l.setting.answers.now
