-- A text answered with Done gives the same run as the files that it was made from.
use Rattle.std.proofs.Common.{◌≡◌, ℕ, ◌≤◌, List, [], ◌∷◌, length, Option, Some, None, Result, Ok}
use Rattle.std.proofs.Common.{Err, sym, subst, ap, ◌∙◌}
use Rattle.std.specs.Result.{result_ok}
use Rattle.std.proofs.lemmas.Option.{same_Some}
use Rattle.plex_io.specs.Files.{Files}
use Rattle.plex_limits.specs.declared.limits.TheConstants.{MOST_BYTES}
use Rattle.exchange_model.specs.declared.exchange.Exchange.{Exchange}
use Rattle.signal_file.specs.declared.line.Line.{Line}
use Rattle.signal_file.specs.Lines.{signal_lines}
use Rattle.job_table.specs.Merged.{merged}
use Rattle.job_table.specs.Table.{table_periods}
use Rattle.job_table.specs.Writing.{written_out}
use Rattle.command_words.specs.Words.{Word}
use Rattle.command_words.specs.declared.command.TimedWords.{TimedWords}
use Rattle.answer_meaning.specs.declared.fault.Which.TheVariants.{First}
use Rattle.answer_meaning.specs.Outcome.{Out, goes_on, or_refused}
use Rattle.answer_meaning.specs.Reading.{exchange_of_text}
use Rattle.answer_meaning.specs.Text.{signals_refusal, source_refusal, table_refusal}
use Rattle.answer_meaning.specs.Given.{exchange_at, exchange_of_file, lines_at, lines_of_file}
use Rattle.answer_meaning.specs.Given.{text_at, text_of_file}
use Rattle.answer_meaning.specs.RunAnswer.{run_of}
use Rattle.answer_meaning.specs.TimedAnswer.{merged_at, merged_of_file, timed_of}
use Rattle.answer_meaning.specs.Answer.{answer_of}
use Rattle.answer_meaning.specs.declared.answer.Answer.{Answer}
use Rattle.command_words.specs.declared.status.Status.{Status}
use Rattle.command_words.specs.declared.status.Status.TheVariants as status
use Rattle.answer_meaning.proofs.Accepted.{gone_on}
use Rattle.command_answers.proofs.Written.{timed_is_run}
use Rattle.merge_program.specs.Merge.{IsMergeAnswer, lines_answer, merge_of}

IsDone : Status → Type 0
IsDone status.Done = Unit {0}
IsDone s = ⊥

done : (s : Status) → s ≡ status.Done → IsDone s
unfolding IsDone
done s is = subst IsDone (sym is) tt

-- a stage never stops with Done
NeverDone : {A : Type 0} → Out A → Type 0
NeverDone (Ok a) = Unit {0}
NeverDone (Err r) = IsDone r.status → ⊥

refused : {A F : Type 0} (by : F → Answer) (said : Result A F) → ((f : F) → IsDone (by f).status → ⊥) → NeverDone (or_refused by said)
unfolding NeverDone
refused by (Ok a) never = tt
refused by (Err f) never = never f

followed : {A B : Type 0} (s : Out A) (go : A → Out B) → NeverDone s → ((a : A) → NeverDone (go a)) → NeverDone (goes_on s go)
unfolding NeverDone
followed (Ok a) go never next = next a
followed (Err r) go never next = never

text_never : (held : Option (List ℕ)) → NeverDone (text_of_file held)
unfolding NeverDone IsDone
text_never None = λ d. d
text_never (Some bytes) = tt

exchange_never : (text : Option (List ℕ)) → NeverDone (exchange_of_file First text)
unfolding IsDone source_refusal
exchange_never text = refused (source_refusal First) (exchange_of_text text) (λ f d. d)

lines_never : (x : Exchange) (text : Option (List ℕ)) → NeverDone (lines_of_file x text)
unfolding NeverDone IsDone signals_refusal
lines_never x None = λ d. d
lines_never x (Some text) = refused signals_refusal (signal_lines x text) (λ f d. d)

merged_never : (x : Exchange) (lines : List Line) (text : Option (List ℕ)) → NeverDone (merged_of_file x lines text)
unfolding NeverDone IsDone table_refusal
merged_never x lines None = λ d. d
merged_never x lines (Some text) = followed (or_refused table_refusal (table_periods x (length lines) text))
    (λ ps. Ok (merged lines ps)) (refused table_refusal (table_periods x (length lines) text) (λ f d. d)) (λ ps. tt)

merge_never : (e s t : Word) (files : Files) → NeverDone (merge_of e s t files)
unfolding NeverDone
merge_never e s t files =
    followed (exchange_at e files) _ (followed (text_at e files) _ (text_never (files e)) exchange_never) (λ x.
    followed (lines_at x s files) _ (followed (text_at s files) _ (text_never (files s)) (lines_never x)) (λ lines.
    followed (merged_at x lines t files) _ (followed (text_at t files) _ (text_never (files t)) (merged_never x lines)) (λ all. tt)))

-- an answer with Done comes from a value
told_done : (o : Out Answer) (a : Answer) → NeverDone o → answer_of o ≡ a → a.status ≡ status.Done → o ≡ Ok a
unfolding NeverDone
told_done (Ok b) a never is d = ap Ok is
told_done (Err r) a never is d = absurd (never (done r.status (ap (λ x. x.status) is ∙ d)))

-- the text of an answer with lines
text_of : (x : Exchange) (all : List Line) (a : Answer) → lines_answer x all ≡ a → written_out x all ≡ a.text
text_of x all a is = ap (λ r. r.text) is

pub merged_run : (w : TimedWords) (files others : Files) (name : Word) (a : Answer)
    → IsMergeAnswer (w.run.exchange ∷ w.run.signals ∷ w.table ∷ []) files a → a.status ≡ status.Done
    → exchange_at w.run.exchange others ≡ exchange_at w.run.exchange files → others name ≡ Some a.text → length a.text ≤ MOST_BYTES
    → run_of (record w.run { signals = name }) others ≡ timed_of w files
unfolding IsMergeAnswer
merged_run w files others name a answer d same held small =
    let comes : merge_of w.run.exchange w.run.signals w.table files
    ≡ Ok a = told_done (merge_of w.run.exchange w.run.signals w.table files) a
    (merge_never w.run.exchange w.run.signals w.table files) answer d in
    let first = gone_on (exchange_at w.run.exchange files)
    (λ x. goes_on (lines_at x w.run.signals files)
    (λ lines. goes_on (merged_at x lines w.table files) (λ all. Ok (lines_answer x all)))) a comes in
    let x : Exchange = first.0 in
    let second = gone_on (lines_at x w.run.signals files) (λ lines. goes_on (merged_at x lines w.table files) (λ all. Ok (lines_answer x all))) a first.2 in
    let lines : List Line = second.0 in
    let third = gone_on (merged_at x lines w.table files) (λ all. Ok (lines_answer x all)) a second.2 in
    let all : List Line = third.0 in
    let text : written_out x all ≡ a.text = text_of x all a (same_Some (lines_answer x all) a (ap result_ok third.2)) in
    timed_is_run w files others name x lines all first.1 second.1 third.1 (same ∙ first.1) (held ∙ ap Some (sym text))
    (subst (λ t. length t ≤ MOST_BYTES) (sym text) small)
