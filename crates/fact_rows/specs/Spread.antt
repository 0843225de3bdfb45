-- A row of sets of numbers that share their bits. Each set that was met stands once in a list of
-- words, as many words for each, and has as its number the place of its first word, counted from a
-- first number. For each set of the row there is such a number, and one that is below the first is
-- of no set: so all sets are left without numbers by counting on. One set of the row may be laid
-- out beside the list, in words of its own, whatever its number is.
use Rattle.std.specs.Prelude.{◌≡◌, ℕ, ◌+◌, ◌*◌, ◌-◌, ◌<◌, ◌≤◌, ◌^◌, ◌++◌, nat_eq, nat_lt, Bool}
use Rattle.std.specs.Prelude.{true, List, [], length, map, take, drop, slice_index_or}
use Rattle.std.specs.Prelude.{if◌then◌else◌}
use Rattle.std.specs.List.{All, range_with_len}
use Rattle.fact_rows.specs.declared.sets.Sets.{Sets}
use Rattle.fact_rows.specs.declared.planes.Planes.{Planes}
use Rattle.fact_rows.specs.Numbers.{numbers}

-- the words that begin at a place
abbrev pub words_at : List ℕ → ℕ → ℕ → List ℕ
words_at words width place = take width (drop place words)

-- these are the words of the set of a number
pub record IsWordsOf (words : List ℕ) (first width n : ℕ) (set : List ℕ) : Type 0 where
  pub from : first ≤ n
  pub is : set ≡ words_at words width (n - first)

-- a number is that of a set with these words
pub record IsNumberOf (words : List ℕ) (first width n : ℕ) (set : List ℕ) : Type 0 where
  pub from : first ≤ n
  pub within : n + width ≤ first + length words
  pub is : set ≡ words_at words width (n - first)

abbrev pub HasSet : Sets → ℕ → List ℕ → Type 0
HasSet s n set = IsNumberOf s.words.items s.first s.width n set

-- all sets stand where they stood, and others may stand behind them
pub record IsGrown (words : List ℕ) (first width : ℕ) (new_words : List ℕ)
    (new_first new_width : ℕ) : Type 0 where
  pub same_first : new_first ≡ first
  pub same_width : new_width ≡ width
  pub rest : List ℕ
  pub all : new_words ≡ words ++ rest

abbrev pub IsLonger : Sets → Sets → Type 0
IsLonger old new = IsGrown old.words.items old.first old.width new.words.items new.first new.width

-- the sets are forgotten, if so, and numbers go on behind theirs
pub record IsPassed (old new : Sets) (done : Bool) : Type 0 where
  pub width : new.width ≡ old.width
  pub words : done ≡ true → new.words.items ≡ []
  pub first : done ≡ true → new.first ≡ old.first + length old.words.items

-- the numbers in the set of a number
abbrev pub set_in : List ℕ → ℕ → ℕ → ℕ → List ℕ
set_in words first width n =
    (if nat_lt n first then [] else numbers (words_at words width (n - first)))

-- the numbers in the i-th set of the row
abbrev pub shown_at : Planes → ℕ → List ℕ
shown_at p i = (if nat_eq i p.own then numbers p.laid.items
    else set_in p.sets.words.items p.sets.first p.sets.width (slice_index_or p.set_numbers i 0))

-- the numbers in all sets of the row
unfoldable pub row_of : Planes → List (List ℕ)
row_of p = map (shown_at p) (range_with_len 0 (length p.set_numbers))

-- each set has some words, few enough for its numbers, and each number of a set is that of one that
-- stands in the list, or stood there
pub record IsSound (p : Planes) : Type 0 where
  pub wide : 0 < p.sets.width
  pub fits : 64 * p.sets.width ≤ 2 ^ 32
  pub laid_so : length p.laid.items ≡ p.sets.width
  pub within : All (λ n. n + p.sets.width ≤ p.sets.first + length p.sets.words.items) p.set_numbers

-- a row with its words that has as many sets, of as many words
pub record KeepsRow (old new : Planes) : Type 0 where
  pub sound : IsSound new
  pub long : length new.set_numbers ≡ length old.set_numbers
  pub width : new.sets.width ≡ old.sets.width

-- the same row, however it is kept
pub record IsAlike (old new : Planes) : Type 0 where
  pub keeps : KeepsRow old new
  pub same : row_of new ≡ row_of old

-- the words of the i-th set of the row
pub record AreWordsAt (p : Planes) (i : ℕ) (words : List ℕ) : Type 0 where
  pub long : length words ≡ p.sets.width
  pub is : numbers words ≡ slice_index_or (row_of p) i []
