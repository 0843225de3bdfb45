-- `run` and `single`: the report of the single run.
use Rattle.std.specs.Prelude.{◌≡◌, ℕ, List, map, Option, Some, None, Ok, Err, unwrap_or}
use Rattle.plex_io.specs.Files.{Files}
use Rattle.exchange_model.specs.declared.exchange.Exchange.{Exchange}
use Rattle.signal_file.specs.declared.line.Line.{Line}
use Rattle.source_meaning.specs.SingleRun.{Ending, Finished, Limited, Restarted, end_state}
use Rattle.source_meaning.specs.SingleRun.{ending_at, opening}
use Rattle.source_meaning.specs.State.{State}
use Rattle.run_books.specs.Accounts.{with_words}
use Rattle.run_books.specs.Events.{ending_of as told_ending}
use Rattle.run_books.specs.Lines.{coming_of}
use Rattle.exchange_run.specs.declared.turns.Ended.{Ended}
use Rattle.report_text.specs.Report.{report_text}
use Rattle.answer_meaning.specs.Certificates.{IsJudged}
use Rattle.command_words.specs.Words.{Word}
use Rattle.answer_meaning.specs.declared.fault.CertificateFault.{CertificateFault}
use Rattle.command_words.specs.declared.command.RunWords.{RunWords}
use Rattle.answer_meaning.specs.declared.answer.Answer.{Answer}
use Rattle.answer_meaning.specs.Text.{certificate_refusal}
use Rattle.command_words.specs.declared.status.Status.{Status}
use Rattle.command_words.specs.declared.status.Status.TheVariants as status
use Rattle.answer_meaning.specs.Outcome.{ComesOf, Out, goes_on}
use Rattle.answer_meaning.specs.Given.{exchange_at, lines_at, text_at}

-- the status of an ending
abbrev pub ended_status : Ending → Status
ended_status Finished = status.Done
ended_status Restarted = status.Restart
ended_status Limited = status.Limit

-- how a run within this limit of jobs ends in this state; the value is unused where it does not end
-- there
abbrev pub ending_of : ℕ → State → Ending
ending_of jobs s = unwrap_or (ending_at jobs s) Limited

-- the report of a single run that ends so, and the status of that ending
abbrev pub ended_answer : Exchange → State → Ending → Answer
ended_answer x s ending = record { status = ended_status ending; text = report_text x s ending }

-- the same for the books and memory words at the end
abbrev pub ending_answer : Exchange → Ended → Answer
ending_answer x end = ended_answer x (with_words end.books.state end.words) (told_ending end.ending)

-- the state in which the single run of these lines ends, with this limit of jobs
abbrev pub end_of : Exchange → List Line → ℕ → State
end_of x lines jobs = end_state x jobs (opening x (map coming_of lines))

abbrev pub run_answer : Exchange → List Line → ℕ → Answer
run_answer x lines jobs =
    ended_answer x (end_of x lines jobs) (ending_of jobs (end_of x lines jobs))

abbrev pub run_of : RunWords → Files → Out Answer
run_of w files =
    goes_on (exchange_at w.exchange files) (λ x.
    goes_on (lines_at x w.signals files) (λ lines.
    Ok (run_answer x lines w.bounds.jobs)))

-- the answer, or the refusal of the certificate
abbrev pub or_certificate_fault : Option CertificateFault → Answer → Out Answer
or_certificate_fault None a = Ok a
or_certificate_fault (Some f) a = Err (certificate_refusal f)

-- the outcome of a run with this answer and a certificate of this text: a valid certificate does
-- not change the answer, any other text is refused
pub record IsCertifiedRun (x : Exchange) (text : Option (List ℕ)) (a : Answer)
    (o : Out Answer) : Type 0 where
  pub fault : Option CertificateFault
  pub judged : IsJudged x text fault
  pub comes : or_certificate_fault fault a ≡ o

-- a run with the certificate of a file, which is read after the signal file
abbrev pub RunsWith : RunWords → Word → Files → Out Answer → Type 0
RunsWith w name files =
    ComesOf (exchange_at w.exchange files) (λ x.
    ComesOf (lines_at x w.signals files) (λ lines.
    ComesOf (text_at name files) (λ text.
    IsCertifiedRun x text (run_answer x lines w.bounds.jobs))))

-- a run with this certificate, or without one
abbrev pub RunComes : RunWords → Option Word → Files → Out Answer → Type 0
RunComes w None files o = run_of w files ≡ o
RunComes w (Some name) files o = RunsWith w name files o
