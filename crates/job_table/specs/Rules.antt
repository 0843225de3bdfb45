-- What a line of a table means in an exchange, and its first fault.
--
-- A line is looked at with what counts of the lines before it. Its rules are looked at in a fixed
-- order, and the first that it breaks decides.
use Rattle.std.specs.Prelude.{ℕ, ◌+◌, ◌-◌, ◌*◌, ◌^◌, ◌&&◌, nat_eq, nat_le, nat_lt, Bool, List, []}
use Rattle.std.specs.Prelude.{◌∷◌, length, codes, Option, Some, None, Result, Ok, if◌then◌else◌}
use Rattle.exchange_model.specs.declared.exchange.Exchange.{Exchange}
use Rattle.text_lines.specs.Words.{is_skipped, words}
use Rattle.signal_file.specs.declared.directory.Signal.{Signal}
use Rattle.signal_file.specs.Rules.{and_then, entry_of, need, rule_broken, signal_of, unless}
use Rattle.job_table.specs.declared.fault.TableFault.{TableFault}
use Rattle.job_table.specs.declared.fault.TableRule.{TableRule}
use Rattle.job_table.specs.declared.fault.TableRule.TheVariants.{TooLarge, BadLine, UnknownSignal}
use Rattle.job_table.specs.declared.fault.TableRule.TheVariants.{UnknownBlock, WrongData, BadRange}
use Rattle.job_table.specs.declared.fault.TableRule.TheVariants.{TooMany}
use Rattle.job_table.specs.declared.meaning.Before.{Before}
use Rattle.job_table.specs.declared.period.Period.{Period}
use Rattle.job_table.specs.declared.period.TheConstants.{MOST_LINES}
use Rattle.job_table.specs.Form.{Saying, said_in}

-- the word of a rule in what is told of a fault
abbrev pub table_rule_name : TableRule → List ℕ
table_rule_name TooLarge = codes "TOOLARGE"
table_rule_name BadLine = codes "BADLINE"
table_rule_name UnknownSignal = codes "UNKNOWNSIGNAL"
table_rule_name UnknownBlock = codes "UNKNOWNBLOCK"
table_rule_name WrongData = codes "WRONGDATA"
table_rule_name BadRange = codes "BADRANGE"
table_rule_name TooMany = codes "TOOMANY"

-- the fault of a line that breaks this rule
abbrev pub breach : TableRule → ℕ → TableFault
breach rule line = record { line = line; rule = rule }

-- the count of the last of these signals, which come in turn, so many jobs after each other
abbrev pub last_count : ℕ → ℕ → ℕ → ℕ
last_count every from times = from + every * (times - 1)

-- there are signals, they are some jobs apart, and all their counts are below 2^32
abbrev pub is_in_range : ℕ → ℕ → ℕ → Bool
is_in_range every from times =
    nat_lt 0 every && (nat_lt 0 times && nat_lt (last_count every from times) (2 ^ 32))

-- the rules on a line of a signal that its block receives, in their order: by how many values the
-- line has, and its three numbers
abbrev pub tests : Before → Signal → ℕ → ℕ → ℕ → ℕ → List (TableRule × Bool)
tests b signal values every from times =
    (WrongData, nat_eq values signal.count)
    ∷ (BadRange, is_in_range every from times)
    ∷ (TooMany, nat_le (b.signals + times) MOST_LINES)
    ∷ []

-- the same of what a line says
abbrev pub tests_on : Before → Saying → Signal → List (TableRule × Bool)
tests_on b s signal = tests b signal (length s.values) s.every s.from s.times

-- the period that is said, with the entry that it names
abbrev pub period_of : Before → Saying → ℕ → Period
period_of b s entry = record {
  number = b.lines + 1;
  every = s.every;
  from = s.from;
  times = s.times;
  entry = entry;
  values = s.values;
  fresh = s.fresh;
}

-- what a line means, or its first fault
unfoldable pub meaning : Exchange → Before → Saying → Result Period TableFault
meaning x b s =
    need (breach UnknownSignal (b.lines + 1)) (signal_of x s.signal) (λ signal.
    need (breach UnknownBlock (b.lines + 1)) (entry_of x signal.number s.block) (λ entry.
    unless (λ rule. breach rule (b.lines + 1)) (rule_broken (tests_on b s signal))
    (period_of b s entry)))

-- what a line adds, nothing where it is skipped; or its first fault
abbrev pub told : Exchange → Before → Option Saying → Result (Option Period) TableFault
told x b o = need (breach BadLine (b.lines + 1)) o
    (λ s. and_then (meaning x b s) (λ p. Ok (Some p)))

unfoldable pub added : Exchange → Before → List ℕ → Result (Option Period) TableFault
added x b line = (if is_skipped line then Ok None else told x b (said_in (words line)))

-- how many signals a line adds
abbrev pub signals_in : Option Period → ℕ
signals_in None = 0
signals_in (Some p) = p.times

-- what counts of the lines up to the one that adds this
abbrev pub behind : Before → Option Period → Before
behind b first = record { lines = b.lines + 1; signals = b.signals + signals_in first }
