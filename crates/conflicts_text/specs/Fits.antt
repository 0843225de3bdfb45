-- Texts that fit into this many bytes, and lines that do not.
use Rattle.std.specs.Prelude.{ℕ, ◌<◌, ◌≤◌, List, length, Option, Some, None}

-- the whole text, which fits; or else some of its lines do not fit
abbrev pub TextWithin : (IsText HasLines : List ℕ → Type 0) → ℕ → Option (List ℕ) → Type 0
TextWithin IsText HasLines room (Some text) = IsText text × (length text ≤ room)
TextWithin IsText HasLines room None = (lines : List ℕ) × HasLines lines × (room < length lines)

-- all rows; or else the lines of some of them do not fit
abbrev pub RowsWithin : {R : Type 0} → (All Few : List R → Type 0) → (List R → List ℕ) → ℕ
    → Option (List R) → Type 0
RowsWithin {R} All Few lines room (Some rows) = All rows
RowsWithin {R} All Few lines room None = (rows : List R) × Few rows × (room < length (lines rows))
