use Rattle.command_answers.proofs.Written.{lines_of_text, merged_again}
use Rattle.command_answers.proofs.laws.written_lines_of_texts_are_read.Goals as goal

pub returns-clause-lines : goal.returns-clause-lines
returns-clause-lines c = lines_of_text

pub returns-clause-merged : goal.returns-clause-merged
returns-clause-merged c = merged_again
