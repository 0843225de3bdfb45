-- The lines of a signal file, as the single run has them: those that are left, and those that have
-- arrived, each with the forlopp that it got.
use Rattle.std.specs.Prelude.{◌≡◌, ℕ, nat_eq, List, [], ◌∷◌, ◌++◌, map, drop, length, Option, Some}
use Rattle.std.specs.Prelude.{None, Result, Ok, MatchResult, if◌then◌else◌}
use Rattle.std.specs.Option.{option_or}
use Rattle.exchange_model.specs.declared.exchange.Exchange.{Exchange}
use Rattle.signal_file.specs.Lines.{signal_lines}
use Rattle.signal_file.specs.declared.line.Line.{Line}
use Rattle.signal_file.specs.declared.line.LineKind.{LineKind}
use Rattle.signal_file.specs.declared.line.LineKind.TheVariants.{Fresh, Bare, Same}
use Rattle.source_meaning.specs.State.{Arrived, Coming, Origin}
use Rattle.source_meaning.specs.State as state

abbrev pub origin_of : LineKind → Origin
origin_of Fresh = state.Fresh
origin_of Bare = state.Bare
origin_of (Same line) = state.Same line

-- a line
abbrev pub coming_of : Line → Coming
coming_of l = record {
  number = l.number;
  after = l.after;
  entry = l.entry;
  values = l.values;
  origin = origin_of l.kind;
}

-- the first of these lines have arrived, and got these forlopps
abbrev pub arrived_of : List Line → List ℕ → List Arrived
arrived_of [] given = []
arrived_of (l ∷ rest) [] = []
arrived_of (l ∷ rest) (f ∷ given) =
    record { line = coming_of l; forlopp = f } ∷ arrived_of rest given

-- the lines that are left, and those that have arrived
pub record Timetable : Type 0 where
  pub lines : List Coming
  pub arrived : List Arrived

abbrev pub timetable : List Line → List ℕ → Timetable
timetable lines given =
    record { lines = map coming_of (drop (length given) lines); arrived = arrived_of lines given }

-- the forlopp of the first line of this number that has arrived, if one has
abbrev pub found_in : List Arrived → ℕ → Option ℕ
found_in [] line = None
found_in (a ∷ rest) line =
    (if nat_eq a.line.number line then Some a.forlopp else found_in rest line)

-- a table has what is found of these lines, the first of which have arrived and got these forlopps
abbrev pub AreFound : (ℕ → Option ℕ) → List Line → List ℕ → Type 0
AreFound table lines given = (n : ℕ) → table n ≡ found_in (arrived_of lines given) n

-- a table has the forlopp of a line too, unless it had one of that number
abbrev pub Notes : (ℕ → Option ℕ) → (ℕ → Option ℕ) → ℕ → ℕ → Type 0
Notes old new line forlopp =
    (n : ℕ) → new n ≡ option_or (old n) (if nat_eq line n then Some forlopp else None)

-- the next line has arrived, and got this forlopp; where memory was refused, nothing has changed
abbrev pub NextArrives : {A E : Type 0} → Timetable → Timetable → ℕ → Result A E → Type 0
NextArrives old new forlopp told = MatchResult told
    (λ _. (l : Coming) × (old.lines ≡ l ∷ new.lines)
    × (new.arrived ≡ old.arrived ++ record { line = l; forlopp = forlopp } ∷ [])) (λ _. new ≡ old)

-- this is so of the lines of every signal file that has no fault
abbrev pub OfEachFile : (Exchange → List ℕ → List Line → Type 0) → Type 0
OfEachFile P = (x : Exchange) (text : List ℕ) (lines : List Line) → signal_lines x text ≡ Ok lines
    → P x text lines
