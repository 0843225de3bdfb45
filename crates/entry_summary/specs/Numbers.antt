-- Variables and fields, numbered through the exchange: those of the first block first, in their
-- order, and the fields of the first file first.
use Rattle.std.specs.Prelude.{ℕ, ◌+◌, length, take, sum_by}
use Rattle.exchange_model.specs.declared.exchange.Exchange.{Exchange}
use Rattle.exchange_model.specs.declared.block.Block.{Block}
use Rattle.exchange_model.specs.Cells.{Placed}
use Rattle.source_meaning.specs.Config.{files_of}

-- the number of a variable of a block
abbrev pub variable_number : Exchange → ℕ → ℕ → ℕ
variable_number x b variable =
    sum_by (λ (k : Block). length k.variables) (take b x.blocks) + variable

-- the number of a field of a file
abbrev pub field_number : Exchange → ℕ → ℕ → ℕ
field_number x file field =
    sum_by (λ (p : Placed). length p.file.fields) (take file (files_of x)) + field
