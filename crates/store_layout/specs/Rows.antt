-- What contracts see of a layout: a row for each block, a row for each file, and the number of
-- words.
use Rattle.std.specs.Prelude.{ℕ, List}
use Rattle.store_layout.specs.declared.row.BlockRow.{BlockRow}
use Rattle.store_layout.specs.declared.row.FileRow.{FileRow}

pub record Rows : Type 0 where
  pub blocks : List BlockRow
  pub files : List FileRow
  pub cells : ℕ
