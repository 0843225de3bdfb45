-- Round trip: lines written as a text are read back unchanged.
use Rattle.std.proofs.Common.{◌≡◌, ℕ, ◌≤◌, ◌<◌, ◌^◌, List, length, Ok, ap, sym, subst, ◌∙◌, arith}
use Rattle.std.proofs.Common.{[], map, Option, Some, None}
use Rattle.plex_limits.specs.declared.limits.TheConstants.{MOST_BYTES}
use Rattle.exchange_model.specs.declared.exchange.Exchange.{Exchange}
use Rattle.signal_file.specs.declared.line.Line.{Line}
use Rattle.signal_file.specs.Lines.{signal_lines}
use Rattle.run_books.proofs.Fitting.{signal_lines_few}
use Rattle.job_table.specs.declared.period.Period.{Period}
use Rattle.job_table.specs.Merged.{all_lines, by_count, line_count, merged, number_in}
use Rattle.job_table.specs.Table.{table_periods}
use Rattle.job_table.proofs.Fit.{merged_fit, merged_small, numbered_are}
use Rattle.answer_meaning.specs.Outcome.{goes_on, or_refused}
use Rattle.answer_meaning.specs.Text.{table_refusal, signals_refusal}
use Rattle.answer_meaning.proofs.Stages.{is_fitting}
use Rattle.std.specs.List.{AllByRecursion}
use Rattle.std.specs.Result.{result_ok}
use Rattle.std.proofs.lemmas.Option.{none-some, same_Some}
use Rattle.plex_io.specs.Files.{Files}
use Rattle.source_meaning.specs.Valid.{LinesFit}
use Rattle.run_books.specs.Lines.{coming_of}
use Rattle.job_table.specs.Fit.{AreNumberedFrom}
use Rattle.job_table.specs.Writing.{written_out}
use Rattle.job_table.proofs.Again.{written_read}
use Rattle.job_table.proofs.Fitted.{table_few}
use Rattle.answer_meaning.specs.Given.{exchange_at, lines_at, lines_of_file, text_at, text_of_file}
use Rattle.answer_meaning.specs.RunAnswer.{run_answer, run_of}
use Rattle.answer_meaning.specs.TimedAnswer.{merged_at, merged_of_file, timed_of}
use Rattle.command_words.specs.Words.{Word}
use Rattle.command_words.specs.declared.command.TimedWords.{TimedWords}
use Rattle.answer_meaning.specs.declared.fault.Which.TheVariants.{First}
use Rattle.answer_meaning.proofs.Accepted.{IsAccepted, accepted, gone_on, read, text_small}
use Rattle.known_exchange.proofs.Tables.{length-merged, table_fits}

-- ## Running the merged lines as a signal file gives the same run

-- the text of a signal file has these lines
record HasLines (x : Exchange) (lines : List Line) : Type 0 where
  pub text : List ℕ
  pub small : length text ≤ MOST_BYTES
  pub are : signal_lines x text ≡ Ok lines

has_lines : (x : Exchange) (name : Word) (files : Files) (lines : List Line) → lines_at x name files ≡ Ok lines → HasLines x lines
has_lines x name files lines e = let a = gone_on (text_at name files) (lines_of_file x) lines e in by a.0 a.1 a.2
  where
    by : (o : Option (List ℕ)) → text_at name files ≡ Ok o → lines_of_file x o ≡ Ok lines → HasLines x lines
    by None held e = absurd (none-some lines (ap result_ok e))
    by (Some text) held e = record { text = text; small = text_small name files text held; are = read signals_refusal (signal_lines x text) lines e }

-- the text of a table has these periods, and these are all lines
record HasTable (x : Exchange) (lines all : List Line) : Type 0 where
  pub text : List ℕ
  pub periods : List Period
  pub are : table_periods x (length lines) text ≡ Ok periods
  pub merge : merged lines periods ≡ all

has_table : (x : Exchange) (lines : List Line) (name : Word) (files : Files) (all : List Line) → merged_at x lines name files ≡ Ok all → HasTable x lines all
has_table x lines name files all e = let a = gone_on (text_at name files) (merged_of_file x lines) all e in by a.0 a.2
  where
    by : (o : Option (List ℕ)) → merged_of_file x lines o ≡ Ok all → HasTable x lines all
    by None e = absurd (none-some all (ap result_ok e))
    by (Some text) e =
        let p = gone_on (or_refused table_refusal (table_periods x (length lines) text)) (λ periods. Ok (merged lines periods)) all e in
        record {
          text = text;
          periods = p.0;
          are = read table_refusal (table_periods x (length lines) text) p.0 p.1;
          merge = same_Some (merged lines p.0) all (ap result_ok p.2);
        }

-- the text written for the lines is read back as these lines
read_again : (x : Exchange) (lines all : List Line) → IsAccepted x → HasLines x lines → HasTable x lines all → signal_lines x (written_out x all) ≡ Ok all
read_again x lines all a l t =
    let sorted = by_count (all_lines lines t.periods) in
    let short : length lines < 2 ^ 32 = signal_lines_few x l.text lines (table_fits l.text l.small) l.are in
    let many = length-merged lines t.periods in
    let few : line_count lines t.periods < 2 ^ 32 = table_few x lines t.text t.periods (sym t.are) short in
    let fewer : length (merged lines t.periods) < 2 ^ 32 = omega (arith, many, few) in
    subst (λ ls. signal_lines x (written_out x ls) ≡ Ok ls) t.merge
    (written_read x (merged lines t.periods) a.kept a.words (merged_fit x l.text t.text lines t.periods l.are t.are)
    (numbered_are (number_in sorted) 1 sorted) (merged_small x l.text t.text lines t.periods l.are t.are) fewer)

-- the lines of a file with that text
lines_again : (x : Exchange) (name : Word) (others : Files) (all : List Line) → others name ≡ Some (written_out x all)
    → length (written_out x all) ≤ MOST_BYTES → signal_lines x (written_out x all) ≡ Ok all
    → lines_at x name others ≡ Ok all
lines_again x name others all held short are =
    ap (λ o. goes_on (text_of_file o) (λ text. lines_of_file x text)) held
    ∙ ap (λ (o : Option (List ℕ)). lines_of_file x o) (sym (is_fitting (written_out x all) short))
    ∙ ap (or_refused signals_refusal) are

pub lines_of_text : (name : Word) (files : Files) (x : Exchange) (lines : List Line) → exchange_at name files ≡ Ok x
    → LinesFit x [] (map coming_of lines) → AreNumberedFrom 1 lines
    → AllByRecursion (λ (l : Line). l.after < 2 ^ 32) lines → length lines < 2 ^ 32 → signal_lines x (written_out x lines) ≡ Ok lines
lines_of_text name files x lines is fit numbers small few = let a = accepted First name files x is in written_read x lines a.kept a.words fit numbers small few

pub merged_again : (w : TimedWords) (files : Files) (x : Exchange) (lines all : List Line)
    → exchange_at w.run.exchange files ≡ Ok x → lines_at x w.run.signals files ≡ Ok lines
    → merged_at x lines w.table files ≡ Ok all → signal_lines x (written_out x all) ≡ Ok all
merged_again w files x lines all is reads merges_to = read_again x lines all (accepted First w.run.exchange files x is)
    (has_lines x w.run.signals files lines reads) (has_table x lines w.table files all merges_to)

pub timed_is_run : (w : TimedWords) (files others : Files) (name : Word) (x : Exchange) (lines all : List Line)
    → exchange_at w.run.exchange files ≡ Ok x → lines_at x w.run.signals files ≡ Ok lines
    → merged_at x lines w.table files ≡ Ok all
    → exchange_at w.run.exchange others ≡ Ok x → others name ≡ Some (written_out x all)
    → length (written_out x all) ≤ MOST_BYTES → run_of (record w.run { signals = name }) others ≡ timed_of w files
timed_is_run w files others name x lines all is reads merges_to again held short =
    let are = merged_again w files x lines all is reads merges_to in
    let there : lines_at x name others ≡ Ok all = lines_again x name others all held short are in
    ap (λ o. goes_on o (λ y. goes_on (lines_at y name others) (λ ls. Ok (run_answer y ls w.run.bounds.jobs)))) again
    ∙ ap (λ o. goes_on o (λ ls. Ok (run_answer x ls w.run.bounds.jobs))) there
    ∙ sym (
    ap (λ o. goes_on o (λ y. goes_on (lines_at y w.run.signals files)
    (λ ls. goes_on (merged_at y ls w.table files) (λ all. Ok (run_answer y all w.run.bounds.jobs))))) is
    ∙ ap (λ o. goes_on o (λ ls. goes_on (merged_at x ls w.table files) (λ all. Ok (run_answer x all w.run.bounds.jobs)))) reads
    ∙ ap (λ o. goes_on o (λ all. Ok (run_answer x all w.run.bounds.jobs))) merges_to)
