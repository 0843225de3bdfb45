-- `change`: a run that continues with another exchange.
use Rattle.std.specs.Prelude.{◌≡◌, ℕ, nat_le, nat_lt, Bool, true, false, not, ◌&&◌, List, ◌++◌}
use Rattle.std.specs.Prelude.{Option, Some, None, Err}
use Rattle.plex_io.specs.Files.{Files}
use Rattle.exchange_model.specs.declared.exchange.Exchange.{Exchange}
use Rattle.signal_file.specs.declared.line.Line.{Line}
use Rattle.source_meaning.specs.SingleRun.{Ending, Finished, Limited, Restarted, end_state}
use Rattle.source_meaning.specs.State.{State, has_stopped}
use Rattle.report_text.specs.Report.{event_lines, text_of}
use Rattle.block_change.specs.declared.misfit.Misfit.{Misfit}
use Rattle.block_change.specs.Carried.{IsCarried}
use Rattle.block_change.specs.Misfits.{misfit}
use Rattle.answer_meaning.specs.Text.{change_text, misfit_refusal}
use Rattle.command_words.specs.declared.command.ChangeWords.{ChangeWords}
use Rattle.answer_meaning.specs.declared.answer.Answer.{Answer}
use Rattle.answer_meaning.specs.declared.fault.Which.TheVariants.{New}
use Rattle.answer_meaning.specs.Outcome.{ComesOf, IsAnAnswer, Out, headed_by}
use Rattle.answer_meaning.specs.Given.{exchange_as, exchange_at, lines_at}
use Rattle.answer_meaning.specs.RunAnswer.{end_of, ended_answer, ending_of, run_answer}

-- the change at job `at` takes place: the run is allowed that many jobs, has that many, and does
-- not stop with the last of them
abbrev pub is_changed : Exchange → List Line → (jobs at : ℕ) → Bool
is_changed x lines jobs at =
    nat_le at jobs && (nat_le at (end_of x lines at).ended && not (has_stopped (end_of x lines at)))

-- a run that ended so after `ended` jobs is over before a change at job `at`, or stopped with that
-- job
abbrev pub ends_before : Ending → (ended at : ℕ) → Bool
ends_before Restarted ended at = true
ends_before Finished ended at = nat_lt ended at
ends_before Limited ended at = nat_lt ended at

-- the report of the run that continues from this state
abbrev pub further_answer : Exchange → State → ℕ → Answer
further_answer x s jobs = ended_answer x (end_state x jobs s) (ending_of jobs (end_state x jobs s))

-- the events before the change, the change itself, and the report of the run on the new exchange
abbrev pub changed_answer : (old new : Exchange) → (before carried : State) → (jobs at : ℕ) → Answer
changed_answer old new before carried jobs at = headed_by
    (text_of (event_lines old before.events) ++ change_text at) (further_answer new carried jobs)

-- this state of the old exchange is carried over to the new one after `at` jobs, and the run
-- continues there
pub record IsChanged (old new : Exchange) (before : State) (jobs at : ℕ) (a : Answer) : Type 0 where
  pub carried : State
  pub is : IsCarried old new before carried
  pub answers : a ≡ changed_answer old new before carried jobs at

-- a run with the change, or one that is over before it
abbrev pub ChangesOrNot : (old new : Exchange) → List Line → (jobs at : ℕ) → Bool → Answer → Type 0
ChangesOrNot old new lines jobs at true a = IsChanged old new (end_of old lines at) jobs at a
ChangesOrNot old new lines jobs at false a = a ≡ run_answer old lines jobs

-- the run, or the refusal where the new exchange lacks something that the old one has
abbrev pub AnswersChange : (old new : Exchange) → List Line → (jobs at : ℕ) → Option Misfit
    → Out Answer → Type 0
AnswersChange old new lines jobs at None o =
    IsAnAnswer (ChangesOrNot old new lines jobs at (is_changed old lines jobs at)) o
AnswersChange old new lines jobs at (Some m) o = Err (misfit_refusal old m) ≡ o

-- the outcome of a change from one exchange to another
abbrev pub ChangeAnswers : (old new : Exchange) → List Line → (jobs at : ℕ) → Out Answer → Type 0
ChangeAnswers old new lines jobs at = AnswersChange old new lines jobs at (misfit old new)

abbrev pub ChangeComes : ChangeWords → Files → Out Answer → Type 0
ChangeComes w files =
    ComesOf (exchange_at w.run.exchange files) (λ old.
    ComesOf (lines_at old w.run.signals files) (λ lines.
    ComesOf (exchange_as New w.new files) (λ new.
    ChangeAnswers old new lines w.run.bounds.jobs w.at)))
