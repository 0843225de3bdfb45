-- The periods of a table, or its first fault.
--
-- Each line is looked at behind all lines before it, those that are skipped too, so that it has
-- their number. The first faulty line decides.
use Rattle.std.specs.Prelude.{ℕ, ◌+◌, List, [], ◌∷◌, length, sum_by, Result, Ok, Err}
use Rattle.std.specs.Str.Lines.{lines}
use Rattle.std.specs.List.{cons_option}
use Rattle.exchange_model.specs.declared.exchange.Exchange.{Exchange}
use Rattle.job_table.specs.declared.fault.TableFault.{TableFault}
use Rattle.job_table.specs.declared.meaning.Before.{Before}
use Rattle.job_table.specs.declared.period.Period.{Period}
use Rattle.signal_file.specs.Rules.{and_then}
use Rattle.job_table.specs.Rules.{added, behind}

-- the periods of these lines, which stand behind others
unfoldable pub periods_behind : Exchange → Before → List (List ℕ) → Result (List Period) TableFault
periods_behind x b [] = Ok []
periods_behind x b (line ∷ rest) =
    and_then (added x b line) (λ first. and_then (periods_behind x (behind b first) rest)
    (λ ps. Ok (cons_option first ps)))

-- what counts before the first line, beside so many lines of a signal file
abbrev pub beside : ℕ → Before
beside signals = record { lines = 0; signals = signals }

-- what counts of these lines, which say these periods, beside so many lines of a signal file
abbrev pub counted_of : ℕ → List (List ℕ) → List Period → Before
counted_of signals lines periods =
    record { lines = length lines; signals = signals + sum_by (λ (p : Period). p.times) periods }

-- the periods of a text beside so many lines of a signal file, or its first fault
abbrev pub table_periods : Exchange → ℕ → List ℕ → Result (List Period) TableFault
table_periods x signals text = periods_behind x (beside signals) (lines text)
