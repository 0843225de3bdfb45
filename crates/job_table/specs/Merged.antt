-- The lines of a signal file and the signals of a table, as one list.
--
-- The lines of the signal file stand first, and behind them for each period in turn its signals.
-- They are ordered by count, equal counts as they stand, and numbered from 1. A line that takes the
-- forlopp of an earlier one names it by its new number.
use Rattle.std.specs.Prelude.{ℕ, ◌+◌, ◌*◌, ◌<◌, ◌^◌, nat_eq, nat_le, Bool, List, [], ◌∷◌, ◌++◌}
use Rattle.std.specs.Prelude.{length, map, position, sum_by, Option, if◌then◌else◌}
use Rattle.std.specs.List.{flat_map, range_with_len}
use Rattle.std.specs.Option.{option_map, unwrap_or}
use Rattle.signal_file.specs.declared.line.Line.{Line}
use Rattle.signal_file.specs.declared.line.LineKind.{LineKind}
use Rattle.signal_file.specs.declared.line.LineKind.TheVariants.{Fresh, Bare, Same}
use Rattle.job_table.specs.declared.period.Period.{Period}
use Rattle.job_table.specs.Rules.{last_count}

-- the last count of a period is below 2^32
abbrev pub IsInRange : Period → Type 0
IsInRange p = last_count p.every p.from p.times < 2 ^ 32

-- how many lines there are
abbrev pub line_count : List Line → List Period → ℕ
line_count lines periods = length lines + sum_by (λ (p : Period). p.times) periods

-- one signal of a period, by its turn from 0; it has no number yet
abbrev pub line_at : Period → ℕ → Line
line_at p turn = record {
  number = 0;
  after = p.from + p.every * turn;
  entry = p.entry;
  values = p.values;
  kind = (if p.fresh then Fresh else Bare);
}

-- the signals of a period
abbrev pub lines_of : Period → List Line
lines_of p = map (line_at p) (range_with_len 0 p.times)

abbrev pub all_lines : List Line → List Period → List Line
all_lines lines periods = lines ++ flat_map lines_of periods

-- a line goes in front of those whose count is not below its own
unfoldable pub placed_in : Line → List Line → List Line
placed_in l [] = l ∷ []
placed_in l (m ∷ rest) = (if nat_le l.after m.after then l ∷ m ∷ rest else m ∷ placed_in l rest)

-- ordered by count, equal counts as they stand
unfoldable pub by_count : List Line → List Line
by_count [] = []
by_count (l ∷ rest) = placed_in l (by_count rest)

abbrev pub has_number : ℕ → Line → Bool
has_number n l = nat_eq l.number n

-- the new number of the line that had this one
abbrev pub number_in : List Line → ℕ → Option ℕ
number_in lines old = option_map (λ place. place + 1) (position (has_number old) lines)

-- numbers take the place of old ones; 0 where there is none
abbrev pub renamed : (ℕ → Option ℕ) → LineKind → LineKind
renamed new Fresh = Fresh
renamed new Bare = Bare
renamed new (Same old) = Same (unwrap_or (new old) 0)

abbrev pub renumbered : (ℕ → Option ℕ) → ℕ → Line → Line
renumbered new number l = record {
  number = number;
  after = l.after;
  entry = l.entry;
  values = l.values;
  kind = renamed new l.kind;
}

-- these lines are numbered from this number on
unfoldable pub numbered_from : (ℕ → Option ℕ) → ℕ → List Line → List Line
numbered_from new number [] = []
numbered_from new number (l ∷ rest) = renumbered new number l ∷ numbered_from new (number + 1) rest

-- each line of the list gets its place, from 1, for its number
abbrev pub numbered : List Line → List Line
numbered lines = numbered_from (number_in lines) 1 lines

abbrev pub merged : List Line → List Period → List Line
merged lines periods = numbered (by_count (all_lines lines periods))
