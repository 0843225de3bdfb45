-- Each stage has at most one outcome, so arguments and files have at most one answer.
use Rattle.std.proofs.Common.{◌≡◌, ℕ, Bool, true, false, List, Option, Some, None, Ok, Err, refl}
use Rattle.std.proofs.Common.{sym, ap, ◌∙◌, subst}
use Rattle.plex_io.specs.Files.{Files}
use Rattle.exchange_model.specs.declared.exchange.Exchange.{Exchange}
use Rattle.exchange_model.specs.Kept.{IsExchange}
use Rattle.signal_file.specs.declared.line.Line.{Line}
use Rattle.analysis_text.specs.Analysis.{IsAnalysis}
use Rattle.certificate_text.specs.Text.{certificate_text}
use Rattle.block_change.specs.declared.misfit.Misfit.{Misfit}
use Rattle.block_change.specs.Misfits.{misfit}
use Rattle.block_change.proofs.Once.{state_once}
use Rattle.command_words.specs.Words.{Word, shape}
use Rattle.command_words.specs.declared.command.Command.{Command}
use Rattle.command_words.specs.declared.command.Command.TheVariants.{Run, Single, Analyse, Certify}
use Rattle.command_words.specs.declared.command.Command.TheVariants.{List as Listing, Load, Timed}
use Rattle.command_words.specs.declared.command.Command.TheVariants.{Change, Trace}
use Rattle.command_words.specs.declared.command.ChangeWords.{ChangeWords}
use Rattle.command_words.specs.declared.command.RunWords.{RunWords}
use Rattle.analysis_laws.proofs.Certifying.{certificate_once}
use Rattle.analysis_laws.proofs.Summing.{all_summaries_once}
use Rattle.analysis_laws.proofs.Telling.{analysis_once}
use Rattle.answer_meaning.specs.Outcome.{ComesOf, IsAnAnswer, Out}
use Rattle.answer_meaning.specs.declared.fault.Which.TheVariants.{New}
use Rattle.answer_meaning.specs.Given.{exchange_as, exchange_at, lines_at, text_at}
use Rattle.answer_meaning.specs.RunAnswer.{IsCertifiedRun, RunComes, end_of, or_certificate_fault}
use Rattle.answer_meaning.specs.RunAnswer.{run_answer}
use Rattle.answer_meaning.specs.ChangeAnswer.{AnswersChange, ChangeComes, ChangesOrNot}
use Rattle.answer_meaning.specs.ChangeAnswer.{changed_answer, is_changed}
use Rattle.answer_meaning.specs.ExchangeAnswer.{AnswersAnalysis, AnswersCertificate, FromExchange}
use Rattle.answer_meaning.specs.Answer.{IsAnswer, IsAnswerBy, answer_of, performed}
use Rattle.answer_meaning.specs.declared.answer.Answer.{Answer}
use Rattle.answer_meaning.proofs.Accepted.{accepted}
use Rattle.answer_laws.proofs.Judging.{judged_once}

-- a stage has at most one outcome if the next one does
goes_once : {A : Type 0} (s : Out A) (Go : A → Out Answer → Type 0) (o p : Out Answer)
    → ((a : A) → s ≡ Ok a → Go a o → Go a p → o ≡ p) → ComesOf s Go o → ComesOf s Go p → o ≡ p
goes_once (Ok a) Go o p once one other = once a refl one other
goes_once (Err r) Go o p once one other = sym one ∙ other

-- a run with a certificate

certified_once : (x : Exchange) (text : Option (List ℕ)) (a : Answer) (o p : Out Answer) → IsCertifiedRun x text a o → IsCertifiedRun x text a p → o ≡ p
certified_once x text a o p one other = sym one.comes
    ∙ ap (λ f. or_certificate_fault f a) (judged_once x text one.fault other.fault one.judged other.judged)
    ∙ other.comes

run_once : (w : RunWords) (name : Option Word) (files : Files) (o p : Out Answer) → RunComes w name files o → RunComes w name files p → o ≡ p
run_once w None files o p one other = sym one ∙ other
run_once w (Some name) files o p one other =
    goes_once (exchange_at w.exchange files) _ o p (λ x comes.
    goes_once (lines_at x w.signals files) _ o p (λ lines told.
    goes_once (text_at name files) _ o p (λ text held.
    certified_once x text (run_answer x lines w.bounds.jobs) o p))) one other

-- an analysis, and a certificate

analysed_once : (x : Exchange) (a b : Answer) → AnswersAnalysis x a → AnswersAnalysis x b → a ≡ b
analysed_once x a b one other =
    let status : a.status ≡ b.status = one.status ∙ sym other.status in
    let summaries : one.summaries ≡ other.summaries = all_summaries_once x one.summaries other.summaries one.are other.are in
    let text : a.text ≡ b.text = analysis_once x other.summaries a.text b.text (subst (λ s. IsAnalysis x s a.text) summaries one.told) other.told in
    λ i. record { status = status i; text = text i }

certified_of_once : (x : Exchange) (a b : Answer) → AnswersCertificate x a → AnswersCertificate x b → a ≡ b
certified_of_once x a b one other =
    let status : a.status ≡ b.status = one.status ∙ sym other.status in
    let text : a.text ≡ b.text = one.told ∙ ap certificate_text (certificate_once x one.certificate other.certificate one.is other.is) ∙ sym other.told in
    λ i. record { status = status i; text = text i }

an_answer_once : (Is : Answer → Type 0) (o p : Out Answer) → ((a b : Answer) → Is a → Is b → a ≡ b) → IsAnAnswer Is o → IsAnAnswer Is p → o ≡ p
an_answer_once Is (Ok a) (Ok b) once one other = ap (λ c. Ok c) (once a b one other)
an_answer_once Is (Ok a) (Err q) once one other = absurd other
an_answer_once Is (Err r) p once one other = absurd one

from_once : (name : Word) (Is : Exchange → Answer → Type 0) (files : Files) (o p : Out Answer)
    → ((x : Exchange) (a b : Answer) → Is x a → Is x b → a ≡ b) → FromExchange name Is files o
    → FromExchange name Is files p → o ≡ p
from_once name Is files o p once one other = goes_once (exchange_at name files) _ o p (λ x comes. an_answer_once (Is x) o p (once x)) one other

-- a change

changed_once : (old new : Exchange) (lines : List Line) (jobs at : ℕ) (b : Bool) (a c : Answer) → IsExchange new
    → ChangesOrNot old new lines jobs at b a → ChangesOrNot old new lines jobs at b c → a ≡ c
changed_once old new lines jobs at true a c kept one other =
    let carried = state_once old new (end_of old lines at) one.carried other.carried kept one.is other.is in
    one.answers ∙ ap (λ s. changed_answer old new (end_of old lines at) s jobs at) carried ∙ sym other.answers
changed_once old new lines jobs at false a c kept one other = one ∙ sym other

change_once : (old new : Exchange) (lines : List Line) (jobs at : ℕ) (m : Option Misfit) (o p : Out Answer)
    → IsExchange new → AnswersChange old new lines jobs at m o → AnswersChange old new lines jobs at m p → o ≡ p
change_once old new lines jobs at None o p kept one other =
    an_answer_once (ChangesOrNot old new lines jobs at (is_changed old lines jobs at)) o p
    (λ a b. changed_once old new lines jobs at (is_changed old lines jobs at) a b kept) one other
change_once old new lines jobs at (Some m) o p kept one other = sym one ∙ other

changes_once : (w : ChangeWords) (files : Files) (o p : Out Answer) → ChangeComes w files o → ChangeComes w files p → o ≡ p
changes_once w files o p one other =
    goes_once (exchange_at w.run.exchange files) _ o p (λ old comes.
    goes_once (lines_at old w.run.signals files) _ o p (λ lines told.
    goes_once (exchange_as New w.new files) _ o p (λ new also.
    change_once old new lines w.run.bounds.jobs w.at (misfit old new) o p (accepted New w.new files new also).kept))) one other

-- all commands

performed_once : (c : Command) (files : Files) (o p : Out Answer) → performed c files o → performed c files p → o ≡ p
performed_once (Run w) files o p one other = run_once w w.certificate files o p one other
performed_once (Single w) files o p one other = sym one ∙ other
performed_once (Analyse name) files o p one other = from_once name AnswersAnalysis files o p analysed_once one other
performed_once (Certify name) files o p one other = from_once name AnswersCertificate files o p certified_of_once one other
performed_once (Listing name) files o p one other = sym one ∙ other
performed_once (Load calls) files o p one other = sym one ∙ other
performed_once (Timed w) files o p one other = sym one ∙ other
performed_once (Change w) files o p one other = changes_once w files o p one other
performed_once (Trace w) files o p one other = sym one ∙ other

answer_by_once : (c : Option Command) (files : Files) (a b : Answer) → IsAnswerBy c files a → IsAnswerBy c files b → a ≡ b
answer_by_once None files a b one other = sym one ∙ other
answer_by_once (Some c) files a b one other = sym one.told ∙ ap answer_of (performed_once c files one.outcome other.outcome one.comes other.comes) ∙ other.told

pub answer_once : (words : List Word) (files : Files) (a b : Answer) → IsAnswer words files a → IsAnswer words files b → a ≡ b
unfolding IsAnswer
answer_once words files a b one other = answer_by_once (shape words) files a b one other
