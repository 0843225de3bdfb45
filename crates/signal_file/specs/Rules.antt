-- What a signal line means in an exchange, and its first fault.
--
-- A line is looked at with what counts of the lines before it. Its rules are looked at in a fixed
-- order, and the first that it breaks decides.
use Rattle.std.specs.Prelude.{◌≡◌, ℕ, ◌+◌, ◌-◌, ◌≤◌, nat_eq, nat_le, Bool, true, false, List, []}
use Rattle.std.specs.Prelude.{◌∷◌, ◌++◌, length, map, codes, fold, position, slice_get, Option}
use Rattle.std.specs.Prelude.{Some, None, Result, Ok, Err, if◌then◌else◌}
use Rattle.std.specs.Str.{bytes_eq}
use Rattle.plex_limits.specs.declared.limits.TheConstants.{MOST_VALUES, MOST_SIGNALS, MOST_BLOCKS}
use Rattle.exchange_model.specs.declared.exchange.Exchange.{Exchange}
use Rattle.exchange_model.specs.declared.signal.SignalKind.{SignalKind}
use Rattle.exchange_model.specs.declared.signal.SignalKind.TheVariants.{Buffered}
use Rattle.exchange_model.specs.Index.{is_entry}
use Rattle.exchange_model.specs.Names.{names_of_blocks, names_of_signals}
use Rattle.signal_file.specs.declared.before.Before.{Before}
use Rattle.signal_file.specs.declared.directory.Directory.{Directory}
use Rattle.signal_file.specs.declared.directory.Signal.{Signal}
use Rattle.signal_file.specs.declared.fault.SignalsFault.{SignalsFault}
use Rattle.signal_file.specs.declared.fault.SignalsRule.{SignalsRule}
use Rattle.signal_file.specs.declared.fault.SignalsRule.TheVariants.{TooLarge, BadLine}
use Rattle.signal_file.specs.declared.fault.SignalsRule.TheVariants.{UnknownSignal, UnknownBlock}
use Rattle.signal_file.specs.declared.fault.SignalsRule.TheVariants.{WrongData, FallingCount, BadAs}
use Rattle.signal_file.specs.declared.line.Line.{Line}
use Rattle.signal_file.specs.declared.line.LineKind.{LineKind}
use Rattle.signal_file.specs.declared.line.LineKind.TheVariants.{Fresh, Bare, Same}
use Rattle.signal_file.specs.Form.{Saying, said_in, with}
use Rattle.text_lines.specs.Words.{is_skipped, words}

-- a signal, where it is single and buffered: its number, and how many values it has
abbrev pub if_buffered : ℕ → Option SignalKind → Option Signal
if_buffered number (Some (Buffered name level count)) =
    Some (record { number = number; count = count })
if_buffered number _ = None

-- the single buffered signal of this name
abbrev pub signal_of : Exchange → List ℕ → Option Signal
signal_of x name = with (position (bytes_eq name) (names_of_signals x.signals))
    (λ number. if_buffered number (slice_get x.signals number))

-- the entry of a signal at the block of this name, which is there exactly where the block receives
-- the signal
abbrev pub entry_of : Exchange → ℕ → List ℕ → Option ℕ
entry_of x signal name = with (position (bytes_eq name) (names_of_blocks x.blocks))
    (λ block. position (is_entry block signal) x.entries)

-- the lines before

-- what a line says, nothing where it is skipped or of no form
abbrev pub says : List ℕ → Option Saying
says line = (if is_skipped line then None else said_in (words line))

abbrev pub count_or : ℕ → Option Saying → ℕ
count_or n None = n
count_or n (Some s) = s.after

-- the count of the last signal line, 0 where there is none: each takes the place of the one before
unfoldable pub last_count : List (List ℕ) → ℕ
last_count lines = fold (λ n line. count_or n (says line)) 0 lines

-- whether a signal line that ends so has a forlopp to give
abbrev pub gives : LineKind → Bool
gives Fresh = true
gives Bare = false
gives (Same line) = true

abbrev pub gives_forlopp : Option Saying → Bool
gives_forlopp None = false
gives_forlopp (Some s) = gives s.kind

-- whether a line is a signal line that does not end in NONE, so that a later one may take its
-- forlopp
abbrev pub is_origin : List ℕ → Bool
is_origin line = gives_forlopp (says line)

-- what counts of the lines before a line
unfoldable pub before_of : List (List ℕ) → Before
before_of lines = record { last = last_count lines; origins = map is_origin lines }

-- what counts behind one more line, which is skipped
abbrev pub behind_skipped : Before → Before
behind_skipped b = record { last = b.last; origins = b.origins ++ false ∷ [] }

-- what counts behind one more signal line
abbrev pub behind_line : Before → Line → Before
behind_line b l = record { last = l.after; origins = b.origins ++ gives l.kind ∷ [] }

-- the number of the line that follows
abbrev pub next_number : Before → ℕ
next_number b = length b.origins + 1

abbrev pub is_true : Option Bool → Bool
is_true None = false
is_true (Some b) = b

-- the number after AS, if there is one, is that of an origin among the lines before, which are
-- numbered from 1
abbrev pub has_origin : Before → LineKind → Bool
has_origin b Fresh = true
has_origin b Bare = true
has_origin b (Same line) =
    (if nat_eq line 0 then false else is_true (slice_get b.origins (line - 1)))

-- the rules

-- goes on with what there is, or stops with this fault
abbrev pub need : {A B F : Type 0} → F → Option A → (A → Result B F) → Result B F
need fault None go = Err fault
need fault (Some a) go = go a

-- goes on with what came, or stops with the fault
abbrev pub and_then : {A B F : Type 0} → Result A F → (A → Result B F) → Result B F
and_then (Ok a) go = go a
and_then (Err f) go = Err f

-- the first rule of these that is broken: each stands beside what must hold
abbrev pub rule_broken : {R : Type 0} → List (R × Bool) → Option R
rule_broken [] = None
rule_broken (test ∷ rest) = (if test.1 then rule_broken rest else Some test.0)

-- this, or the fault of the rule that is broken
abbrev pub unless : {A F R : Type 0} → (R → F) → Option R → A → Result A F
unless fault None a = Ok a
unless fault (Some rule) a = Err (fault rule)

-- the word of a rule in what is told of a fault
abbrev pub signals_rule_name : SignalsRule → List ℕ
signals_rule_name TooLarge = codes "TOOLARGE"
signals_rule_name BadLine = codes "BADLINE"
signals_rule_name UnknownSignal = codes "UNKNOWNSIGNAL"
signals_rule_name UnknownBlock = codes "UNKNOWNBLOCK"
signals_rule_name WrongData = codes "WRONGDATA"
signals_rule_name FallingCount = codes "FALLINGCOUNT"
signals_rule_name BadAs = codes "BADAS"

-- the fault of a line that breaks this rule
abbrev pub breach : SignalsRule → ℕ → SignalsFault
breach rule line = record { line = line; rule = rule }

-- the rules on a line of a signal that its block receives, in their order: by the count of the
-- line, how many values it has, and how it ends
abbrev pub tests : Before → Signal → ℕ → ℕ → LineKind → List (SignalsRule × Bool)
tests b signal after values kind =
    (WrongData, nat_eq values signal.count)
    ∷ (FallingCount, nat_le b.last after)
    ∷ (BadAs, has_origin b kind)
    ∷ []

-- the same of what a line says
abbrev pub tests_on : Before → Saying → Signal → List (SignalsRule × Bool)
tests_on b s signal = tests b signal s.after (length s.values) s.kind

-- the line that is said, with the entry that it names
abbrev pub line_of : Before → Saying → ℕ → Line
line_of b s entry = record {
  number = next_number b;
  after = s.after;
  entry = entry;
  values = s.values;
  kind = s.kind;
}

-- what a signal line means, or its first fault
unfoldable pub meaning : Exchange → Before → Saying → Result Line SignalsFault
meaning x b s =
    need (breach UnknownSignal (next_number b)) (signal_of x s.signal) (λ signal.
    need (breach UnknownBlock (next_number b)) (entry_of x signal.number s.block) (λ entry.
    unless (λ rule. breach rule (next_number b)) (rule_broken (tests_on b s signal))
    (line_of b s entry)))

-- what a line adds, nothing where it is skipped; or its first fault
abbrev pub told : Exchange → Before → Option Saying → Result (Option Line) SignalsFault
told x b o = need (breach BadLine (next_number b)) o
    (λ s. and_then (meaning x b s) (λ l. Ok (Some l)))

unfoldable pub added : Exchange → Before → List ℕ → Result (Option Line) SignalsFault
added x b line = (if is_skipped line then Ok None else told x b (said_in (words line)))

-- the names of an exchange, in the order of their numbers
pub record IsDirectory (x : Exchange) (d : Directory) : Type 0 where
  pub signals : d.signals ≡ names_of_signals x.signals
  pub blocks : d.blocks ≡ names_of_blocks x.blocks
  pub few : (name : List ℕ) (signal : Signal) → signal_of x name ≡ Some signal
      → signal.count ≤ MOST_VALUES
  pub few_signals : length d.signals ≤ MOST_SIGNALS
  pub few_blocks : length d.blocks ≤ MOST_BLOCKS
