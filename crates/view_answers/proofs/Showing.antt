-- The listing of code, and the jobs that a filter selects.
use Rattle.std.proofs.Common.{◌≡◌, ℕ, List, ap, ◌∙◌, refl, map}
use Rattle.exchange_model.specs.declared.exchange.Exchange.{Exchange}
use Rattle.signal_file.specs.declared.line.Line.{Line}
use Rattle.source_meaning.specs.SingleRun.{opening}
use Rattle.source_meaning.specs.State.{State, Coming}
use Rattle.run_books.specs.Accounts.{with_words}
use Rattle.run_books.specs.Lines.{coming_of}
use Rattle.exchange_run.specs.declared.turns.Ended.{Ended}
use Rattle.machine_code.specs.Coded.{Code}
use Rattle.stmt_code.specs.Whole.{entry_addresses, whole_code}
use Rattle.listing.specs.Listing.{IsListing, code_text}
use Rattle.signal_trace.specs.declared.show.Show.{Show}
use Rattle.signal_trace.specs.Text.{trace_text}
use Rattle.signal_trace.specs.Trace.{trace}
use Rattle.command_words.specs.declared.status.Status.TheVariants as status
use Rattle.answer_meaning.specs.declared.answer.Answer.{Answer}
use Rattle.answer_meaning.specs.Outcome.{headed_by}
use Rattle.answer_meaning.specs.RunAnswer.{ending_answer}
use Rattle.answer_meaning.specs.ListAnswer.{code_of, listing_answer}
use Rattle.answer_meaning.specs.TraceAnswer.{trace_answer}
use Rattle.run_answers.specs.Runs.{IsRunOf}
use Rattle.run_answers.proofs.Opened.{ends_at}
use Rattle.run_answers.proofs.Telling.{answer_is}

-- ## The listing

pub listing_is : (x : Exchange) (code : Code) (text : List ℕ) (a : Answer) → code.ops ≡ whole_code x
    → code.entries ≡ entry_addresses x → a.status ≡ status.Done → a.text ≡ text → IsListing text code
    → a ≡ listing_answer x
listing_is x code text a ops entries status_is text_is listed =
    let same : code ≡ code_of x = λ i. record { ops = ops i; entries = entries i } in
    let told : a.text ≡ code_text (code_of x) = text_is ∙ listed.so ∙ ap code_text same in
    λ i. record { status = status_is i; text = told i }

-- ## The jobs that a filter selects

-- no job has ended before the first line
pub none_ended : (x : Exchange) (lines : List Coming) (b : State) (words : List ℕ) → with_words b words ≡ opening x lines → b.ended ≡ 0
none_ended x lines b words begins = ap (λ (s : State). s.ended) begins

-- the text of the selected jobs, for a run from its start
pub shown_of : (x : Exchange) (first other : State) (limit at : ℕ) (shows : List Show) (text : List ℕ) → first ≡ other
    → limit ≡ at → text ≡ trace_text x (trace x limit first shows) → text ≡ trace_text x (trace x at other shows)
shown_of x first other limit at shows text begins is shown = shown ∙ (λ i. trace_text x (trace x (is i) (begins i) shows))

-- that text, and then the report
pub trace_is : (x : Exchange) (lines : List Line) (limit : ℕ) (shows : List Show) (end : Ended) (text : List ℕ)
    (a : Answer) → IsRunOf x lines limit end → text
    ≡ trace_text x (trace x limit (opening x (map coming_of lines)) shows) → a ≡ headed_by text (ending_answer x end)
    → a ≡ trace_answer x lines shows limit
trace_is x lines limit shows end text a over shown told =
    told ∙ ap (λ t. headed_by t (ending_answer x end)) shown
    ∙ ap (headed_by (trace_text x (trace x limit (opening x (map coming_of lines)) shows))) (answer_is x lines limit end (ending_answer x end) over refl)

pub ruleset traced_rules = (none_ended, ends_at, shown_of)
