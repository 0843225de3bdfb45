use Rattle.std.proofs.Common.{◌≡◌, ◌<◌, ◌^◌, ◌∙◌, length, sym, arith}
use Rattle.job_table.specs.Merged.{all_lines, by_count, line_count, merged, number_in}
use Rattle.job_table.proofs.Again.{written_read}
use Rattle.job_table.proofs.Fit.{merged_fit, merged_small, numbered_are}
use Rattle.job_table.proofs.Fitted.{table_few}
use Rattle.job_table.proofs.Numbering.{length-numbered}
use Rattle.job_table.proofs.Sorting.{length-by_count}
use Rattle.job_table.proofs.Turns.{length-all_lines}
use Rattle.job_table.proofs.laws.written_lines_are_read.Goals as goal

pub returns-clause-lines : goal.returns-clause-lines
returns-clause-lines c x lines kept has fit numbers small few = written_read x lines kept has fit numbers small few

pub returns-clause-merged : goal.returns-clause-merged
returns-clause-merged c x signals table lines periods kept has short lines_read table_read =
    let sorted = by_count (all_lines lines periods) in
    let many : length (merged lines periods) ≡ line_count lines periods = length-numbered (number_in sorted) 1 sorted
    ∙ length-by_count (all_lines lines periods) ∙ length-all_lines lines periods in
    let few : line_count lines periods < 2 ^ 32 = table_few x lines table periods (sym table_read) short in
    let fewer : length (merged lines periods) < 2 ^ 32 = omega (arith, many, few) in
    written_read x (merged lines periods) kept has (merged_fit x signals table lines periods lines_read table_read)
    (numbered_are (number_in sorted) 1 sorted) (merged_small x signals table lines periods lines_read table_read)
    fewer
