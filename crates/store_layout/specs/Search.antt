-- How the cell of a word is looked for: the last block or file that begins at the word or before
-- it, and the cell of that file's records.
use Rattle.std.specs.Prelude.{◌≡◌, ℕ, ◌+◌, ◌*◌, ◌<◌, ◌≤◌, List, length, slice_get, Some}
use Rattle.std.specs.List.Sorted.{IsNonDecreasingBy}
use Rattle.exchange_model.specs.declared.entry.Cell.{Cell}
use Rattle.exchange_model.specs.declared.entry.Cell.TheVariants.{Variable, Field, Mark}
use Rattle.store_layout.specs.declared.row.FileRow.{FileRow}

-- these begin in order, and one of them at this word or before it
pub record SomeUpTo {X : Type 0} (first : X → ℕ) (xs : List X) (word : ℕ) : Type 0 where
  pub sorted : IsNonDecreasingBy first xs
  pub place : ℕ
  pub one : X
  pub there : slice_get xs place ≡ Some one
  pub low : first one ≤ word

-- this is the last of those
pub record IsLastUpTo {X : Type 0} (first : X → ℕ) (xs : List X) (word place : ℕ) : Type 0 where
  pub within : place < length xs
  pub low : (x : X) → slice_get xs place ≡ Some x → first x ≤ word
  pub last : (i : ℕ) (x : X) → place < i → slice_get xs i ≡ Some x → word < first x

-- a mark has its word after the fields of its record
pub record IsMarkAt (row : FileRow) (word number : ℕ) : Type 0 where
  pub place : ℕ
  pub after : row.fields ≤ place
  pub within : place < row.stride
  pub is : row.first + number * row.stride + place ≡ word

abbrev pub IsIn : FileRow → ℕ → Cell → Type 0
IsIn row word (Variable block index) = ⊥
IsIn row word (Field file number field) =
    (file ≡ row.number) × (field < row.fields) × (row.first + number * row.stride + field ≡ word)
IsIn row word (Mark file number) = (file ≡ row.number) × IsMarkAt row word number
