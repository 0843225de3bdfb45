use Rattle.std.proofs.Common.{◌∙◌}
use Rattle.job_table.specs.Merged.{all_lines, by_count, number_in}
use Rattle.job_table.proofs.Fit.{merged_fit, merged_small, numbered_are}
use Rattle.job_table.proofs.Numbering.{length-numbered}
use Rattle.job_table.proofs.Sorting.{length-by_count}
use Rattle.job_table.proofs.Turns.{length-all_lines}
use Rattle.job_table.proofs.laws.merged_lines_fit.Goals as goal

pub returns-clause-fit : goal.returns-clause-fit
returns-clause-fit c x signals table lines periods lines_read table_read = merged_fit x signals table lines periods lines_read table_read

pub returns-clause-numbers : goal.returns-clause-numbers
returns-clause-numbers c lines periods = let sorted = by_count (all_lines lines periods) in numbered_are (number_in sorted) 1 sorted

pub returns-clause-many : goal.returns-clause-many
returns-clause-many c lines periods =
    let sorted = by_count (all_lines lines periods) in
    length-numbered (number_in sorted) 1 sorted ∙ length-by_count (all_lines lines periods) ∙ length-all_lines lines periods

pub returns-clause-counts : goal.returns-clause-counts
returns-clause-counts c x signals table lines periods lines_read table_read = merged_small x signals table lines periods lines_read table_read
