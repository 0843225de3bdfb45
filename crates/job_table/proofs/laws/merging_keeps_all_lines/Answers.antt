use Rattle.job_table.proofs.Standing.{line_named, merged_rises, stand_once}
use Rattle.job_table.proofs.laws.merging_keeps_all_lines.Goals as goal

pub returns-clause-rises : goal.returns-clause-rises
returns-clause-rises c lines periods = merged_rises lines periods

pub returns-clause-once : goal.returns-clause-once
returns-clause-once c lines periods = stand_once lines periods

pub returns-clause-named : goal.returns-clause-named
returns-clause-named c x signals table lines periods lines_read table_read i l there = line_named x signals table lines periods lines_read table_read i l there
