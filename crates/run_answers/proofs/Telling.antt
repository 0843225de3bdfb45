-- From the end of a run to its answer: the report, and the summary of a load.
use Rattle.std.proofs.Common.{◌≡◌, ℕ, List, sym, ap, ◌∙◌, ◌++◌, refl}
use Rattle.std.specs.Prelude.{unwrap_or}
use Rattle.exchange_model.specs.declared.exchange.Exchange.{Exchange}
use Rattle.signal_file.specs.declared.line.Line.{Line}
use Rattle.source_meaning.specs.SingleRun.{Ending, Finished, Limited, Restarted}
use Rattle.source_meaning.specs.State.{State}
use Rattle.run_books.specs.Accounts.{with_words}
use Rattle.run_books.specs.Events.{ending_of as told_ending}
use Rattle.exchange_run.specs.declared.turns.Ended.{Ended}
use Rattle.report_text.specs.Load.{load_text}
use Rattle.report_text.specs.Report.{report_text}
use Rattle.command_words.specs.declared.status.Status.{Status}
use Rattle.answer_meaning.specs.declared.answer.Answer.{Answer}
use Rattle.answer_meaning.specs.Outcome.{headed_by}
use Rattle.answer_meaning.specs.RunAnswer.{end_of, ended_answer, ended_status, ending_answer}
use Rattle.answer_meaning.specs.RunAnswer.{ending_of, run_answer}
use Rattle.answer_meaning.specs.LoadAnswer.{summed_answer}
use Rattle.answer_meaning.specs.Program.{IsEnding}
use Rattle.run_answers.specs.Runs.{IsRunOf}

-- ## The report

pub status_ends : (e : Ending) (s : Status) → s ≡ ended_status e → IsEnding s
status_ends Finished s is = rw is tt
status_ends Restarted s is = rw is tt
status_ends Limited s is = rw is tt

-- the report on an end, with the status of its ending
pub told_at : (x : Exchange) (s : State) (e : Ending) (a : Answer) → a.status ≡ ended_status e → a.text ≡ report_text x s e → a ≡ ended_answer x s e
told_at x s e a status_is text_is = λ i. record { status = status_is i; text = text_is i }

-- the same after another text
pub told_headed : (x : Exchange) (s : State) (e : Ending) (front : List ℕ) (a : Answer) → a.status ≡ ended_status e
    → a.text ≡ front ++ report_text x s e → a ≡ headed_by front (ended_answer x s e)
told_headed x s e front a status_is text_is = λ i. record { status = status_is i; text = text_is i }

-- the answer at the end of the single run is the answer of the run
pub answer_is : (x : Exchange) (lines : List Line) (jobs : ℕ) (end : Ended) (a : Answer) → IsRunOf x lines jobs end
    → a ≡ ending_answer x end → a ≡ run_answer x lines jobs
answer_is x lines jobs end a over here =
    let e : Ending = told_ending end.ending in
    let ends : e ≡ ending_of jobs (end_of x lines jobs) = ap (λ o. unwrap_or o Limited) (sym over.runs.ends) in
    here ∙ ap (λ t. ended_answer x t e) over.runs.state ∙ ap (ended_answer x (end_of x lines jobs)) ends

-- the summary depends on no memory word
no_words : (calls : ℕ) (s : State) (words : List ℕ) (e : Ending) → load_text calls s e ≡ load_text calls (with_words s words) e
unfolding load_text
no_words calls s words e = refl

-- the summary of an end, with the status of its ending
pub told_summed : (calls : ℕ) (s : State) (words : List ℕ) (e : Ending) (a : Answer) → a.status ≡ ended_status e
    → a.text ≡ load_text calls s e → a ≡ summed_answer calls (with_words s words) e
told_summed calls s words e a status_is text_is =
    let told : a.text ≡ load_text calls (with_words s words) e = text_is ∙ no_words calls s words e in
    λ i. record { status = status_is i; text = told i }

-- the summary at the end of the single run is that of the run
pub summed_is : (calls jobs : ℕ) (x : Exchange) (lines : List Line) (end : Ended) (a : Answer)
    → IsRunOf x lines jobs end → a ≡ summed_answer calls (with_words end.books.state end.words) (told_ending end.ending)
    → a ≡ summed_answer calls (end_of x lines jobs) (ending_of jobs (end_of x lines jobs))
summed_is calls jobs x lines end a over here =
    let e : Ending = told_ending end.ending in
    let ends : e ≡ ending_of jobs (end_of x lines jobs) = ap (λ o. unwrap_or o Limited) (sym over.runs.ends) in
    here ∙ ap (λ t. summed_answer calls t e) over.runs.state ∙ ap (summed_answer calls (end_of x lines jobs)) ends
