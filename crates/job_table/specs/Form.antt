-- The form of a line of a table, whatever its names mean.
--
-- Lines, words and the values at the end are those of a signal file.
use Rattle.std.specs.Prelude.{◌≡◌, ℕ, Bool, true, false, List, [], ◌∷◌, Option, Some, None}
use Rattle.std.specs.Prelude.{if◌then◌else◌, codes}
use Rattle.std.specs.Str.{bytes_eq}
use Rattle.plex_num.specs.Number.{number_of}
use Rattle.signal_file.specs.declared.line.LineKind.{LineKind}
use Rattle.signal_file.specs.declared.line.LineKind.TheVariants.{Fresh, Bare, Same}
use Rattle.signal_file.specs.Form.{KeepsFirst, closing, with}
use Rattle.job_table.specs.declared.form.Said.{Said}

-- a number, and the words behind it
pub record Numbered : Type 0 where
  pub number : ℕ
  pub rest : List (List ℕ)

-- this word and a number stand at the front
abbrev pub numbered : List ℕ → List (List ℕ) → Option Numbered
numbered word [] = None
numbered word (w ∷ []) = None
numbered word (w ∷ n ∷ rest) = (if bytes_eq w word
    then with (number_of n) (λ m. Some (record { number = m; rest = rest })) else None)

-- a line ends in NEW or NONE
abbrev pub fresh_of : LineKind → Option Bool
fresh_of Fresh = Some true
fresh_of Bare = Some false
fresh_of (Same line) = None

-- what a line of a table says: how many jobs lie between its signals, before the first of them, and
-- how often it comes; the names of its signal and its block, its values, and whether its jobs draw
-- forlopps
pub record Saying : Type 0 where
  pub every : ℕ
  pub from : ℕ
  pub times : ℕ
  pub signal : List ℕ
  pub block : List ℕ
  pub values : List ℕ
  pub fresh : Bool

-- a signal, a block, values and the end, behind these numbers
abbrev pub signal_in : ℕ → ℕ → ℕ → List (List ℕ) → Option Saying
signal_in every from times [] = None
signal_in every from times (signal ∷ []) = None
signal_in every from times (signal ∷ block ∷ rest) =
    with (closing rest) (λ c. with (fresh_of c.kind)
    (λ fresh. Some (record {
      every = every;
      from = from;
      times = times;
      signal = signal;
      block = block;
      values = c.values;
      fresh = fresh;
    })))

-- `EVERY`, `FROM` and `TIMES`, each with a number, and the signal
unfoldable pub said_in : List (List ℕ) → Option Saying
said_in ws =
    with (numbered (codes "EVERY") ws) (λ every. with (numbered (codes "FROM") every.rest)
    (λ from. with (numbered (codes "TIMES") from.rest) (λ times.
    signal_in every.number from.number times.number times.rest)))

-- this is what a line says, as it is read
pub record IsRead (s : Saying) (said : Said) : Type 0 where
  pub every : said.every ≡ s.every
  pub from : said.from ≡ s.from
  pub times : said.times ≡ s.times
  pub signal : said.signal.now ≡ s.signal
  pub block : said.block.now ≡ s.block
  pub values : KeepsFirst s.values said.values said.count
  pub fresh : said.fresh ≡ s.fresh

abbrev pub IsSaid : Option Saying → Said → Type 0
IsSaid None said = ⊥
IsSaid (Some s) said = IsRead s said
