-- The form of a line of a filter, whatever its names mean.
--
-- Lines, words and numbers are those of a signal file, and so are the lines that are skipped.
use Rattle.std.specs.Prelude.{ℕ, Bool, true, false, List, [], ◌∷◌, Option, Some, None}
use Rattle.std.specs.Prelude.{if◌then◌else◌, codes}
use Rattle.std.specs.Borrow.{Bor}
use Rattle.std.specs.Str.{bytes_eq}
use Rattle.plex_num.specs.Number.{number_of}
use Rattle.signal_file.specs.Form.{with}
use Rattle.signal_trace.specs.declared.form.Asked.{Asked}

-- what a line asks for: a block and a signal by their names, a forlopp, the first and the last job,
-- and whether only faults
pub record Asking : Type 0 where
  pub block : Option (List ℕ)
  pub signal : Option (List ℕ)
  pub forlopp : Option ℕ
  pub from : Option ℕ
  pub upto : Option ℕ
  pub faults : Bool

-- the word behind a word, as it is read, and the words that follow
abbrev pub behind : {A : Type 0} → (List ℕ → Option A) → List (List ℕ)
    → Option (Option A × List (List ℕ))
behind reads [] = None
behind reads (w ∷ rest) = with (reads w) (λ a. Some (Some a, rest))

-- a part of a line that may be left out: a word and what stands behind it, where the line goes on
-- with that word
abbrev pub part : {A : Type 0} → List ℕ → (List ℕ → Option A) → List (List ℕ)
    → Option (Option A × List (List ℕ))
part word reads [] = Some (None, [])
part word reads (w ∷ rest) = (if bytes_eq w word then behind reads rest else Some (None, w ∷ rest))

-- whether `FAULTS` ends the line, or nothing more
abbrev pub ending : List (List ℕ) → Option Bool
ending [] = Some false
ending (w ∷ []) = (if bytes_eq w (codes "FAULTS") then Some true else None)
ending (w ∷ v ∷ rest) = None

-- what stands behind `SHOW`: each part at most once, and in this order
abbrev pub asked_behind : List (List ℕ) → Option Asking
asked_behind ws =
    with (part (codes "BLOCK") Some ws) (λ block.
    with (part (codes "SIGNAL") Some block.1) (λ signal.
    with (part (codes "FORLOPP") number_of signal.1) (λ forlopp.
    with (part (codes "FROM") number_of forlopp.1) (λ from.
    with (part (codes "UPTO") number_of from.1) (λ upto.
    with (ending upto.1) (λ faults.
    Some (record {
      block = block.0;
      signal = signal.0;
      forlopp = forlopp.0;
      from = from.0;
      upto = upto.0;
      faults = faults;
    })))))))

-- what a line asks for whose words are these, where it is a line of a filter
unfoldable pub asked_in : List (List ℕ) → Option Asking
asked_in [] = None
asked_in (w ∷ rest) = (if bytes_eq w (codes "SHOW") then asked_behind rest else None)

-- a name that may be left out, as it is read
abbrev pub named : Option (Bor (List ℕ)) → Option (List ℕ)
named None = None
named (Some n) = Some n.now

-- what a line asks for, as it is read
abbrev pub asking_of : Asked → Asking
asking_of a = record {
  block = named a.block;
  signal = named a.signal;
  forlopp = a.forlopp;
  from = a.from;
  upto = a.upto;
  faults = a.faults;
}
