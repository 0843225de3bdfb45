-- `timed`: a run of a signal file with a table of periodic signals.
use Rattle.std.specs.Prelude.{ℕ, List, length, Option, Some, None, Ok, Err}
use Rattle.plex_io.specs.Files.{Files}
use Rattle.exchange_model.specs.declared.exchange.Exchange.{Exchange}
use Rattle.signal_file.specs.declared.line.Line.{Line}
use Rattle.job_table.specs.declared.fault.TableRule.TheVariants.{TooLarge}
use Rattle.job_table.specs.Merged.{merged}
use Rattle.job_table.specs.Rules.{breach}
use Rattle.job_table.specs.Table.{table_periods}
use Rattle.command_words.specs.Words.{Word}
use Rattle.command_words.specs.declared.command.TimedWords.{TimedWords}
use Rattle.answer_meaning.specs.declared.answer.Answer.{Answer}
use Rattle.answer_meaning.specs.Text.{table_refusal}
use Rattle.answer_meaning.specs.Outcome.{Out, goes_on, or_refused}
use Rattle.answer_meaning.specs.Given.{exchange_at, lines_at, text_at}
use Rattle.answer_meaning.specs.RunAnswer.{run_answer}

-- the lines and the table's signals as one list, or the table's first fault; the fault of a text
-- that is too large has no line
abbrev pub merged_of_file : Exchange → List Line → Option (List ℕ) → Out (List Line)
merged_of_file x lines None = Err (table_refusal (breach TooLarge 0))
merged_of_file x lines (Some text) = goes_on (or_refused table_refusal
    (table_periods x (length lines) text)) (λ periods. Ok (merged lines periods))

-- the same for the table of a file
abbrev pub merged_at : Exchange → List Line → Word → Files → Out (List Line)
merged_at x lines name files = goes_on (text_at name files) (λ text. merged_of_file x lines text)

-- the run of the signal file's lines, merged with the table's signals
abbrev pub timed_of : TimedWords → Files → Out Answer
timed_of w files =
    goes_on (exchange_at w.run.exchange files) (λ x.
    goes_on (lines_at x w.run.signals files) (λ lines.
    goes_on (merged_at x lines w.table files) (λ all.
    Ok (run_answer x all w.run.bounds.jobs))))
