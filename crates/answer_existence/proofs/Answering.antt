-- Each stage has an outcome, so there is an answer to all arguments and files.
use Rattle.std.proofs.Common.{◌≡◌, ℕ, Bool, true, false, List, Option, None, Some, Ok, Err, refl}
use Rattle.plex_io.specs.Files.{Files}
use Rattle.exchange_model.specs.declared.exchange.Exchange.{Exchange}
use Rattle.exchange_model.specs.Kept.{IsExchange}
use Rattle.signal_file.specs.declared.line.Line.{Line}
use Rattle.certificate_text.specs.Text.{certificate_text}
use Rattle.block_change.specs.declared.misfit.Misfit.{Misfit}
use Rattle.block_change.specs.Misfits.{misfit}
use Rattle.command_words.specs.Words.{Word, shape}
use Rattle.command_words.specs.declared.command.Command.{Command}
use Rattle.command_words.specs.declared.command.Command.TheVariants.{Run, Single, Analyse, Certify}
use Rattle.command_words.specs.declared.command.Command.TheVariants.{List as Listing, Load, Timed}
use Rattle.command_words.specs.declared.command.Command.TheVariants.{Change, Trace}
use Rattle.command_words.specs.declared.command.ChangeWords.{ChangeWords}
use Rattle.command_words.specs.declared.command.RunWords.{RunWords}
use Rattle.answer_meaning.specs.Outcome.{ComesOf, Out}
use Rattle.answer_meaning.specs.declared.fault.Which.TheVariants.{First, New}
use Rattle.answer_meaning.specs.Given.{exchange_as, exchange_at, lines_at, text_at}
use Rattle.answer_meaning.specs.RunAnswer.{IsCertifiedRun, RunComes, end_of, or_certificate_fault}
use Rattle.answer_meaning.specs.RunAnswer.{run_answer, run_of}
use Rattle.answer_meaning.specs.TimedAnswer.{timed_of}
use Rattle.answer_meaning.specs.TraceAnswer.{trace_of}
use Rattle.answer_meaning.specs.ChangeAnswer.{AnswersChange, ChangeComes, ChangesOrNot}
use Rattle.answer_meaning.specs.ChangeAnswer.{changed_answer, is_changed}
use Rattle.answer_meaning.specs.Text.{misfit_refusal}
use Rattle.answer_meaning.specs.ListAnswer.{list_of}
use Rattle.answer_meaning.specs.LoadAnswer.{load_of}
use Rattle.answer_meaning.specs.ExchangeAnswer.{AnswersAnalysis, AnswersCertificate, FromExchange}
use Rattle.answer_meaning.specs.Answer.{IsAnswer, IsAnswerBy, answer_of, performed, usage_answer}
use Rattle.answer_meaning.specs.declared.answer.Answer.{Answer}
use Rattle.command_words.specs.declared.status.Status.TheVariants as status
use Rattle.answer_meaning.proofs.Accepted.{accepted}
use Rattle.answer_existence.proofs.Carrying.{carried}
use Rattle.certificate_existence.proofs.Certifying.{certificate}
use Rattle.answer_existence.proofs.Judging.{judged}
use Rattle.analysis_existence.proofs.Pairing.{analysis}
use Rattle.analysis_existence.proofs.Summaries.{all_summaries}

-- an outcome that satisfies `Is` exists
abbrev Comes : (Out Answer → Type 0) → Type 0
Comes Is = (o : Out Answer) × Is o

goes_on : {A : Type 0} (s : Out A) (Go : A → Out Answer → Type 0) → ((a : A) → s ≡ Ok a → Comes (Go a)) → Comes (ComesOf s Go)
goes_on (Ok a) Go each = each a refl
goes_on (Err r) Go each = (Err r, refl)

-- a run with a certificate

certified_run : (x : Exchange) → IsExchange x → (text : Option (List ℕ)) (a : Answer) → Comes (IsCertifiedRun x text a)
certified_run x kept text a = (let j = judged x kept text in (or_certificate_fault j.0 a, record { fault = j.0; judged = j.1; comes = refl }))

run : (w : RunWords) (name : Option Word) (files : Files) → Comes (RunComes w name files)
run w None files = (run_of w files, refl)
run w (Some name) files =
    goes_on (exchange_at w.exchange files) _ (λ x comes.
    goes_on (lines_at x w.signals files) _ (λ lines told.
    goes_on (text_at name files) _ (λ text held.
    certified_run x (accepted First w.exchange files x comes).kept text (run_answer x lines w.bounds.jobs))))

-- an analysis, and a certificate

analysed : (x : Exchange) → (a : Answer) × AnswersAnalysis x a
analysed x =
    let ss = all_summaries x in
    let t = analysis x ss.0 in
    (record { status = status.Done; text = t.0 }, record { status = refl; summaries = ss.0; are = ss.1; told = t.1 })

certified : (x : Exchange) → IsExchange x → (a : Answer) × AnswersCertificate x a
certified x kept = (let c = certificate x kept in (
  record { status = status.Done; text = certificate_text c.0 },
  record
      { status = refl; certificate = c.0; is = c.1; told = refl },
))

from_exchange : (name : Word) (Is : Exchange → Answer → Type 0) (files : Files)
    → ((x : Exchange) → IsExchange x → (a : Answer) × Is x a) → Comes (FromExchange name Is files)
from_exchange name Is files each = goes_on (exchange_at name files) _ (λ x comes. (let a = each x (accepted First name files x comes).kept in (Ok a.0, a.1)))

-- a change

changes_or_not : (old new : Exchange) (lines : List Line) (jobs at : ℕ) (b : Bool) → IsExchange new → (a : Answer) × ChangesOrNot old new lines jobs at b a
changes_or_not old new lines jobs at true kept =
    let before = end_of old lines at in
    let c = carried old new before kept in
    (changed_answer old new before c.0 jobs at, record { carried = c.0; is = c.1; answers = refl })
changes_or_not old new lines jobs at false kept = (run_answer old lines jobs, refl)

change_outcome : (old new : Exchange) (lines : List Line) (jobs at : ℕ) (m : Option Misfit) → IsExchange new
    → (o : Out Answer) × AnswersChange old new lines jobs at m o
change_outcome old new lines jobs at None kept = (let a = changes_or_not old new lines jobs at (is_changed old lines jobs at) kept in (Ok a.0, a.1))
change_outcome old new lines jobs at (Some m) kept = (Err (misfit_refusal old m), refl)

change : (w : ChangeWords) (files : Files) → Comes (ChangeComes w files)
change w files =
    goes_on (exchange_at w.run.exchange files) _ (λ old comes.
    goes_on (lines_at old w.run.signals files) _ (λ lines told.
    goes_on (exchange_as New w.new files) _ (λ new also.
    change_outcome old new lines w.run.bounds.jobs w.at (misfit old new) (accepted New w.new files new also).kept)))

-- all commands

command : (c : Command) (files : Files) → Comes (performed c files)
command (Run w) files = run w w.certificate files
command (Single w) files = (run_of w files, refl)
command (Analyse name) files = from_exchange name AnswersAnalysis files (λ x kept. analysed x)
command (Certify name) files = from_exchange name AnswersCertificate files certified
command (Listing name) files = (list_of name files, refl)
command (Load calls) files = (load_of calls, refl)
command (Timed w) files = (timed_of w files, refl)
command (Change w) files = change w files
command (Trace w) files = (trace_of w files, refl)

answer_by : (c : Option Command) (files : Files) → (a : Answer) × IsAnswerBy c files a
answer_by None files = (usage_answer, refl)
answer_by (Some c) files = (let o = command c files in (answer_of o.0, record { outcome = o.0; comes = o.1; told = refl }))

pub answer : (words : List Word) (files : Files) → (a : Answer) × IsAnswer words files a
unfolding IsAnswer
answer words files = answer_by (shape words) files
