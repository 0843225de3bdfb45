-- Which conflicts the rows list, and in which order.
use Rattle.std.specs.Prelude.{◌≡◌, ℕ, ◌<◌, List, [], Some, slice_get}
use Rattle.std.specs.List.{Contains}
use Rattle.pair_tests.specs.declared.pair.Conflict.{Conflict}
use Rattle.pair_tests.specs.declared.pair.Verdict.{Verdict}
use Rattle.pair_tests.specs.declared.pair.Verdict.TheVariants.{Never, Tests}
use Rattle.pair_tests.specs.Orders.{Precedes}
use Rattle.conflicts_meaning.specs.declared.rows.ClashRow.{ClashRow}
use Rattle.conflicts_meaning.specs.Rows.{listed}

-- some row lists the conflict
pub record IsToldIn (rows : List ClashRow) (c : Conflict) : Type 0 where
  pub row : ClashRow
  pub there : Contains rows row
  pub is : row.clash ≡ listed c

-- the row at this index, from 0, lists the conflict
pub record IsToldAt (rows : List ClashRow) (place : ℕ) (c : Conflict) : Type 0 where
  pub row : ClashRow
  pub there : slice_get rows place ≡ Some row
  pub is : row.clash ≡ listed c

-- no row lists a conflict that precedes that of a row above it
pub record AreInOrder (rows : List ClashRow) : Type 0 where
  pub none_before : (i j : ℕ) (c d : Conflict) → i < j → IsToldAt rows i c → IsToldAt rows j d
      → Precedes d c → ⊥

-- NEVER with the conflict of the first row, or tests if there are no rows
abbrev pub TellVerdict : List ClashRow → Verdict → Type 0
TellVerdict rows (Never c) = IsToldAt rows 0 c
TellVerdict rows Tests = rows ≡ []
