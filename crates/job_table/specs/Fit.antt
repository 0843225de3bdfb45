-- What is known of lines that are merged, and of exchanges whose lines can be written out and read
-- again.
use Rattle.std.specs.Prelude.{◌≡◌, ℕ, ◌+◌, ◌<◌, ◌≤◌, nat_eq, true, List, [], ◌∷◌, ◌++◌}
use Rattle.std.specs.Prelude.{map, filter, Option, Some, slice_get}
use Rattle.std.specs.List.{AllByRecursion, flat_map}
use Rattle.exchange_model.specs.declared.exchange.Exchange.{Exchange}
use Rattle.signal_file.specs.declared.line.Line.{Line}
use Rattle.job_table.specs.declared.period.Period.{Period}
use Rattle.job_table.specs.Merged.{all_lines, by_count, lines_of, merged, number_in, renamed}
use Rattle.job_table.specs.Merged.{renumbered}
use Rattle.text_lines.specs.Words.{is_some_byte}
use Rattle.exchange_model.specs.Names.{names_of_blocks, names_of_signals}

-- these lines have these numbers, one after the other
abbrev pub AreNumberedFrom : ℕ → List Line → Type 0
AreNumberedFrom number [] = Unit {0}
AreNumberedFrom number (l ∷ rest) = (l.number ≡ number) × AreNumberedFrom (number + 1) rest

-- no count falls: none is above that of a later line
abbrev pub Rises : List Line → Type 0
Rises [] = Unit {0}
Rises (l ∷ rest) = AllByRecursion (λ (m : Line). l.after ≤ m.after) rest × Rises rest

-- the lines of this count, as they stand
abbrev pub of_count : ℕ → List Line → List Line
of_count n lines = filter (λ (l : Line). nat_eq l.after n) lines

-- the new number of the line of a signal file that had this one, merged with these periods
abbrev pub new_number : List Line → List Period → ℕ → Option ℕ
new_number lines periods = number_in (by_count (all_lines lines periods))

-- a line, whatever its number is
abbrev pub unnumbered : Line → Line
unnumbered l = record l { number = 0 }

-- the same of a line that names another one, if it does, by a new number
abbrev pub naming : (ℕ → Option ℕ) → Line → Line
naming new l = record l { number = 0; kind = renamed new l.kind }

-- of each count, the merged lines are those of the signal file, and then the signals of the periods
-- in turn, each once and in the order in which they stood
abbrev pub StandOnce : List Line → List Period → Type 0
StandOnce lines periods = (n : ℕ) →
    map unnumbered (of_count n (merged lines periods))
    ≡ map (naming (new_number lines periods))
    (of_count n lines ++ of_count n (flat_map lines_of periods))

-- a line of the signal file stands among the merged ones where others name it
pub record IsNamed (lines : List Line) (periods : List Period) (l : Line) : Type 0 where
  pub place : ℕ
  pub number : new_number lines periods l.number ≡ Some (place + 1)
  pub there : slice_get (merged lines periods) place
      ≡ Some (renumbered (new_number lines periods) (place + 1) l)

-- a word: one byte or more, all of which stand above the blank
pub record IsPlainWord (word : List ℕ) : Type 0 where
  pub some : is_some_byte word ≡ true
  pub all : AllByRecursion (λ b. 32 < b) word

-- the names of signals and blocks are words
pub record HasWords (x : Exchange) : Type 0 where
  pub signals : AllByRecursion IsPlainWord (names_of_signals x.signals)
  pub blocks : AllByRecursion IsPlainWord (names_of_blocks x.blocks)
