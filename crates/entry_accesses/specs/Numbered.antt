-- Where the numbers of the variables of a block begin, and those of the fields of a file, through
-- the exchange.
use Rattle.std.specs.Prelude.{◌≡◌, ℕ, ◌+◌, ◌<◌, ◌^◌, List, [], ◌∷◌, ◌++◌, length, map, take, sum_by}
use Rattle.std.specs.Prelude.{Some, slice_get}
use Rattle.exchange_model.specs.declared.exchange.Exchange.{Exchange}
use Rattle.exchange_model.specs.declared.block.Block.{Block}
use Rattle.exchange_model.specs.declared.block.File.{File}
use Rattle.exchange_model.specs.Cells.{Placed}
use Rattle.source_meaning.specs.Config.{files_of}
use Rattle.source_meaning.specs.Named.{Named, NamedVariable, NamedField}
use Rattle.entry_summary.specs.Numbers.{variable_number, field_number}
use Rattle.entry_accesses.specs.declared.numbers.CellNumbers.{CellNumbers}

abbrev pub variable_count : Block → ℕ
variable_count k = length k.variables

abbrev pub field_count : File → ℕ
field_count f = length f.fields

abbrev pub placed_count : Placed → ℕ
placed_count p = length p.file.fields

-- the number of a block's first variable, and of a file's first field
abbrev pub first_variable : Exchange → ℕ → ℕ
first_variable x b = sum_by variable_count (take b x.blocks)

abbrev pub first_field : Exchange → ℕ → ℕ
first_field x file = sum_by placed_count (take file (files_of x))

-- these are the first numbers of so many
pub record AreFirsts (many : ℕ) (first : ℕ → ℕ) (firsts : List ℕ) : Type 0 where
  pub each_one : length firsts ≡ many
  pub is : (i n : ℕ) → slice_get firsts i ≡ Some n → n ≡ first i

-- the numbers of an exchange
pub record AreNumbers (x : Exchange) (n : CellNumbers) : Type 0 where
  pub variables : AreFirsts (length x.blocks) (first_variable x) n.variables
  pub fields : AreFirsts (length (files_of x)) (first_field x) n.fields

-- a number so far behind one of these is a number of 32 bits
pub record HasNumber (firsts : List ℕ) (i j : ℕ) : Type 0 where
  pub first : ℕ
  pub there : slice_get firsts i ≡ Some first
  pub small : first + j < 2 ^ 32

-- what a block names has a number of 32 bits
abbrev pub IsNumbered : Exchange → ℕ → Named → Type 0
IsNumbered x b (NamedVariable v) = (b < length x.blocks) × (variable_number x b v < 2 ^ 32)
IsNumbered x b (NamedField file field pointer) =
    (file < length (files_of x)) × (field_number x file field < 2 ^ 32)

-- each number is the sum of those before it, and this one
abbrev pub sums_from : ℕ → List ℕ → List ℕ
sums_from n [] = []
sums_from n (k ∷ ks) = n ∷ sums_from (n + k) ks

-- how many fields each file of these blocks has
abbrev pub field_counts : List Block → List ℕ
field_counts [] = []
field_counts (k ∷ ks) = map field_count k.files ++ field_counts ks
