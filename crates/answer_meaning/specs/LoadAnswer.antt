-- `load`: the summary of a synthetic load's run.
use Rattle.std.specs.Prelude.{ℕ, List, Ok}
use Rattle.plex_limits.specs.declared.limits.TheConstants.{MOST_BYTES}
use Rattle.exchange_model.specs.declared.exchange.Exchange.{Exchange}
use Rattle.signal_file.specs.declared.line.Line.{Line}
use Rattle.source_meaning.specs.SingleRun.{Ending}
use Rattle.source_meaning.specs.State.{State}
use Rattle.report_text.specs.Load.{load_text}
use Rattle.load_maker.specs.Exchange.{exchange_text}
use Rattle.load_maker.specs.Signals.{signals_text}
use Rattle.command_words.specs.declared.command.TheConstants.{USUAL_JOBS}
use Rattle.answer_meaning.specs.declared.fault.Which.TheVariants.{First}
use Rattle.answer_meaning.specs.declared.answer.Answer.{Answer}
use Rattle.answer_meaning.specs.Outcome.{Out, goes_on}
use Rattle.answer_meaning.specs.Given.{exchange_of_file, fitting, lines_of_file}
use Rattle.answer_meaning.specs.RunAnswer.{end_of, ended_status, ending_of}

-- the summary of a single run of a load that ends so, and the status of that ending
abbrev pub summed_answer : ℕ → State → Ending → Answer
summed_answer calls s ending =
    record { status = ended_status ending; text = load_text calls s ending }

abbrev pub load_answer : ℕ → Exchange → List Line → Answer
load_answer calls x lines = summed_answer calls (end_of x lines USUAL_JOBS)
    (ending_of USUAL_JOBS (end_of x lines USUAL_JOBS))

-- the load's two texts take the place of an exchange file and a signal file
abbrev pub load_of : ℕ → Out Answer
load_of calls =
    goes_on (exchange_of_file First (fitting MOST_BYTES (exchange_text calls))) (λ x.
    goes_on (lines_of_file x (fitting MOST_BYTES (signals_text calls))) (λ lines.
    Ok (load_answer calls x lines)))
