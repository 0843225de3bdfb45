-- The lines of a signal file, and the signals of a table that are merged with them.
use Rattle.std.proofs.Common.{◌≡◌, ℕ, ◌≤◌, ◌<◌, ◌^◌, List, length, Result, Ok, Err, ap, sym, subst}
use Rattle.std.proofs.Common.{◌∙◌, arith}
use Rattle.std.proofs.Math.Nat.{le_trans}
use Rattle.plex_limits.specs.declared.limits.TheConstants.{MOST_BYTES}
use Rattle.exchange_model.specs.declared.exchange.Exchange.{Exchange}
use Rattle.signal_file.specs.declared.line.Line.{Line}
use Rattle.signal_file.specs.Lines.{signal_lines}
use Rattle.run_books.proofs.Fitting.{signal_lines_few, signal_lines_fit}
use Rattle.job_table.specs.declared.fault.TableFault.{TableFault}
use Rattle.job_table.specs.declared.period.Period.{Period}
use Rattle.job_table.specs.Merged.{all_lines, by_count, line_count, merged, number_in}
use Rattle.job_table.specs.Table.{table_periods}
use Rattle.job_table.proofs.Fit.{merged_fit}
use Rattle.job_table.proofs.Numbering.{length-numbered}
use Rattle.job_table.proofs.Sorting.{length-by_count}
use Rattle.job_table.proofs.Turns.{length-all_lines}
use Rattle.answer_meaning.specs.Outcome.{goes_on, or_refused}
use Rattle.answer_meaning.specs.Stages.{IsStopOf, ReadAs}
use Rattle.answer_meaning.specs.Lines.{AreOfText, AreRead}
use Rattle.answer_meaning.specs.Text.{table_refusal}
use Rattle.answer_meaning.specs.declared.answer.Stop.{Stop}
use Rattle.answer_meaning.proofs.Stages.{refused_so}

-- a text within the size limit of files
pub table_fits : (text : List ℕ) → length text ≤ MOST_BYTES → length text ≤ 2 ^ 24
table_fits text small = le_trans small (omega arith)

-- the lines of a signal file fit the exchange, and there are fewer than 2^32
pub lines_are_read : (x : Exchange) (text : List ℕ) (lines : List Line) → length text ≤ MOST_BYTES → Ok lines ≡ signal_lines x text → AreRead x lines
lines_are_read x text lines small is = record {
  fit = signal_lines_fit x text lines (sym is);
  few = signal_lines_few x text lines (table_fits text small) (sym is);
}

pub are_of_text : (x : Exchange) (text : List ℕ) (lines : List Line) → Ok lines ≡ signal_lines x text → AreOfText x lines
are_of_text x text lines is = record { text = text; are = sym is }

-- the periods of a table, and what follows from them
pub table_read : (lines : List Line) (said : Result (List Period) TableFault) (periods : List Period)
    (r : Result (List Line) Stop) → Ok periods ≡ said → ReadAs (Ok (merged lines periods)) r
    → ReadAs (goes_on (or_refused table_refusal said) (λ ps. Ok (merged lines ps))) r
table_read lines said periods r is reads = subst (λ s. ReadAs (goes_on (or_refused table_refusal s) (λ ps. Ok (merged lines ps))) r) is reads

pub table_refused : (lines : List Line) (said : Result (List Period) TableFault) (f : TableFault) (s : Stop)
    → Err f ≡ said → IsStopOf (table_refusal f) s
    → ReadAs (goes_on (or_refused table_refusal said) (λ ps. Ok (merged lines ps))) (Err s)
table_refused lines said f s is stops = refused_so
    (goes_on (or_refused table_refusal said) (λ ps. Ok (merged lines ps))) (table_refusal f) s
    (ap (λ s. goes_on (or_refused table_refusal s) (λ ps. Ok (merged lines ps))) (sym is)) stops

-- the number of merged lines
pub length-merged : (lines : List Line) (periods : List Period) → length (merged lines periods) ≡ line_count lines periods
length-merged lines periods =
    let sorted = by_count (all_lines lines periods) in
    length-numbered (number_in sorted) 1 sorted ∙ length-by_count (all_lines lines periods) ∙ length-all_lines lines periods

-- merged lines fit the exchange, and there are fewer than 2^32
pub merged_are_read : (x : Exchange) (lines all : List Line) (table : List ℕ) (periods : List Period)
    → AreOfText x lines → Ok periods ≡ table_periods x (length lines) table → line_count lines periods < 2 ^ 32
    → all ≡ merged lines periods → AreRead x all
merged_are_read x lines all table periods of_text is few same =
    let many = length-merged lines periods in
    subst (AreRead x) (sym same) (record {
      fit = merged_fit x of_text.text table lines periods of_text.are (sym is);
      few = omega (arith, many, few);
    })

pub ruleset table_rules = (table_read, table_refused, table_fits)
