-- The fields that freeing opens: all of the file of which a record is freed, each written in a
-- record that the job holds.
use Rattle.std.specs.Prelude.{◌≡◌, ℕ, ◌<◌, true, length}
use Rattle.exchange_model.specs.declared.exchange.Exchange.{Exchange}
use Rattle.exchange_model.specs.Cells.{Placed}
use Rattle.source_meaning.specs.Deeds.{IsFileAt}
use Rattle.entry_summary.specs.declared.summary.Access.{Access}
use Rattle.entry_summary.specs.declared.summary.Access.TheVariants.{Own, Frees}
use Rattle.entry_summary.specs.Numbers.{field_number}

-- the access writes some field of the file
pub record Opens (x : Exchange) (file : ℕ) (a : Access) : Type 0 where
  pub field : ℕ
  pub placed : Placed
  pub there : IsFileAt x file placed
  pub inside : field < length placed.file.fields
  pub is : a ≡ Own true (field_number x file field)

-- an access that frees records of a file opens its fields
abbrev pub OpenedBy : Exchange → Access → Access → Type 0
OpenedBy x (Frees file) a = Opens x file a
OpenedBy x _ a = ⊥
