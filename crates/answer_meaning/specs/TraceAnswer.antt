-- `trace`: the jobs of the single run that a filter selects.
use Rattle.std.specs.Prelude.{ℕ, List, map, Option, Some, None, Ok, Err}
use Rattle.plex_io.specs.Files.{Files}
use Rattle.exchange_model.specs.declared.exchange.Exchange.{Exchange}
use Rattle.signal_file.specs.declared.line.Line.{Line}
use Rattle.source_meaning.specs.SingleRun.{opening}
use Rattle.run_books.specs.Lines.{coming_of}
use Rattle.signal_trace.specs.declared.fault.FilterRule.TheVariants.{TooLarge}
use Rattle.signal_trace.specs.declared.show.Show.{Show}
use Rattle.signal_trace.specs.Filter.{breach, filter_of}
use Rattle.signal_trace.specs.Text.{trace_text}
use Rattle.signal_trace.specs.Trace.{trace}
use Rattle.command_words.specs.Words.{Word}
use Rattle.command_words.specs.declared.command.TraceWords.{TraceWords}
use Rattle.answer_meaning.specs.declared.answer.Answer.{Answer}
use Rattle.answer_meaning.specs.Text.{filter_refusal}
use Rattle.answer_meaning.specs.Outcome.{Out, goes_on, headed_by, or_refused}
use Rattle.answer_meaning.specs.Given.{exchange_at, lines_at, text_at}
use Rattle.answer_meaning.specs.RunAnswer.{run_answer}

-- the lines of a filter's text, or its first fault; the fault of a text that is too large has no
-- line
abbrev pub shows_of_file : Exchange → Option (List ℕ) → Out (List Show)
shows_of_file x None = Err (filter_refusal (breach TooLarge 0))
shows_of_file x (Some text) = or_refused filter_refusal (filter_of x text)

-- the lines of the filter of a file
abbrev pub shows_at : Exchange → Word → Files → Out (List Show)
shows_at x name files = goes_on (text_at name files) (λ text. shows_of_file x text)

-- the jobs of the single run that a filter selects, then the run's report
abbrev pub trace_answer : Exchange → List Line → List Show → ℕ → Answer
trace_answer x lines shows jobs =
    headed_by (trace_text x (trace x jobs (opening x (map coming_of lines)) shows))
    (run_answer x lines jobs)

abbrev pub trace_of : TraceWords → Files → Out Answer
trace_of w files =
    goes_on (exchange_at w.run.exchange files) (λ x.
    goes_on (lines_at x w.run.signals files) (λ lines.
    goes_on (shows_at x w.filter files) (λ shows.
    Ok (trace_answer x lines shows w.run.bounds.jobs))))
