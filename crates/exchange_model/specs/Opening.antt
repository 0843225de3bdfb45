-- The store before the first job, in the order of the cells: each variable and each field has its
-- INIT value, and all records are free.
use Rattle.std.specs.Prelude.{ℕ, Bool, true, false, List, [], ◌∷◌, ◌++◌, map, replicate}
use Rattle.exchange_model.specs.declared.block.Block.{Block}
use Rattle.exchange_model.specs.declared.block.Variable.{Variable}
use Rattle.exchange_model.specs.declared.block.File.{File}
use Rattle.exchange_model.specs.Inside.{joined}

abbrev pub inits : List Variable → List ℕ
inits variables = map (λ v. v.init) variables

-- the mark of a free record
abbrev pub free_mark : Bool → List ℕ
free_mark false = []
free_mark true = 0 ∷ []

abbrev pub record_opening : File → List ℕ
record_opening f = inits f.fields ++ free_mark f.forlopp

abbrev pub file_opening : File → List ℕ
file_opening f = joined (replicate f.size (record_opening f))

abbrev pub block_opening : Block → List ℕ
block_opening b = inits b.variables ++ joined (map file_opening b.files)

unfoldable pub opening_store : List Block → List ℕ
opening_store blocks = joined (map block_opening blocks)
