-- The form of a line of a signal file, whatever its names mean.
use Rattle.std.specs.Prelude.{◌≡◌, ℕ, ◌+◌, List, [], ◌∷◌, ◌++◌, take, length, Option, Some, None}
use Rattle.std.specs.Prelude.{MatchOption, if◌then◌else◌, codes}
use Rattle.std.specs.Str.{bytes_eq}
use Rattle.plex_limits.specs.declared.limits.TheConstants.{MOST_VALUES}
use Rattle.plex_num.specs.Number.{number_of}
use Rattle.signal_file.specs.declared.form.Said.{Said}
use Rattle.signal_file.specs.declared.form.Tail.{Tail}
use Rattle.signal_file.specs.declared.line.LineKind.{LineKind}
use Rattle.signal_file.specs.declared.line.LineKind.TheVariants.{Fresh, Bare, Same}

-- goes on with what there is
abbrev pub with : {A B : Type 0} → Option A → (A → Option B) → Option B
with None go = None
with (Some a) go = go a

-- `NEW` or `NONE` alone, or `AS` and a number
abbrev pub bare_ending : List ℕ → Option LineKind
bare_ending w = (if bytes_eq w (codes "NEW") then Some Fresh
    else (if bytes_eq w (codes "NONE") then Some Bare else None))

abbrev pub same_ending : List ℕ → List ℕ → Option LineKind
same_ending w n = (if bytes_eq w (codes "AS") then with (number_of n) (λ i. Some (Same i))
    else None)

-- these words are the end of a line
abbrev pub ending : List (List ℕ) → Option LineKind
ending [] = None
ending (w ∷ []) = bare_ending w
ending (w ∷ n ∷ []) = same_ending w n
ending (w ∷ n ∷ m ∷ rest) = None

-- values, and then the end of the line
pub record Closing : Type 0 where
  pub values : List ℕ
  pub kind : LineKind

abbrev pub one_more : ℕ → Closing → Closing
one_more v t = record { values = v ∷ t.values; kind = t.kind }

-- this is the end of the line, or else a value before the rest of it
abbrev pub end_or_value : Option LineKind → Option ℕ → Option Closing → Option Closing
end_or_value (Some kind) value rest = Some (record { values = []; kind = kind })
end_or_value None value rest = with value (λ v. with rest (λ t. Some (one_more v t)))

-- each word before the end of the line is a number
unfoldable pub closing : List (List ℕ) → Option Closing
closing [] = None
closing (w ∷ rest) = end_or_value (ending (w ∷ rest)) (number_of w) (closing rest)

-- what a signal line says: its count, the names of its signal and its block, its values, and where
-- its forlopp comes from
pub record Saying : Type 0 where
  pub after : ℕ
  pub signal : List ℕ
  pub block : List ℕ
  pub values : List ℕ
  pub kind : LineKind

-- `AFTER`, a count, a signal, a block, values and the end
unfoldable pub said_in : List (List ℕ) → Option Saying
said_in (first ∷ count ∷ signal ∷ block ∷ rest) =
    (if bytes_eq first (codes "AFTER")
    then with (number_of count) (λ n. with (closing rest)
    (λ t. Some (record {
      after = n;
      signal = signal;
      block = block;
      values = t.values;
      kind = t.kind;
    })))
    else None)
said_in _ = None

-- the first of these values are kept, as many as a signal may have, and all are counted
pub record KeepsFirst (all kept : List ℕ) (count : ℕ) : Type 0 where
  pub first : kept ≡ take MOST_VALUES all
  pub counted : count ≡ length all

-- one more value is read, and kept if there is room
abbrev pub KeepsOneMore : List ℕ → ℕ → ℕ → List ℕ → Type 0
KeepsOneMore old count value new =
    (all : List ℕ) → KeepsFirst all old count → KeepsFirst (all ++ value ∷ []) new (count + 1)

-- this is the end of a line as it is read
abbrev pub IsTail : Option Closing → Tail → Type 0
IsTail None t = ⊥
IsTail (Some c) t = KeepsFirst c.values t.values t.count × (t.kind ≡ c.kind)

-- the end of a line is read, where these words are one
abbrev pub IsTailOf : List (List ℕ) → Option Tail → Type 0
IsTailOf ws read = MatchOption read (closing ws ≡ None) (λ t. IsTail (closing ws) t)

-- this is what a line says, as it is read
pub record IsRead (s : Saying) (said : Said) : Type 0 where
  pub after : said.after ≡ s.after
  pub signal : said.signal.now ≡ s.signal
  pub block : said.block.now ≡ s.block
  pub values : KeepsFirst s.values said.values said.count
  pub kind : said.kind ≡ s.kind

abbrev pub IsSaid : Option Saying → Said → Type 0
IsSaid None said = ⊥
IsSaid (Some s) said = IsRead s said

-- what these words say is read, where they say something
abbrev pub IsSaidOf : List (List ℕ) → Option Said → Type 0
IsSaidOf ws read = MatchOption read (said_in ws ≡ None) (λ said. IsSaid (said_in ws) said)
