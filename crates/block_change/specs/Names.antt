-- What an exchange has by its names.
use Rattle.std.specs.Prelude.{◌≡◌, ℕ, List, map, Option, position}
use Rattle.std.specs.List.{AllByRecursion, IsDistinct}
use Rattle.std.specs.Str.{bytes_eq}
use Rattle.exchange_model.specs.declared.block.Block.{Block}
use Rattle.exchange_model.specs.declared.block.File.{File}
use Rattle.exchange_model.specs.declared.exchange.Exchange.{Exchange}
use Rattle.exchange_model.specs.Kept.{variable_names}
use Rattle.exchange_model.specs.Names.{names_of_blocks, names_of_signals}
use Rattle.block_change.specs.declared.directory.BlockNames.{BlockNames}
use Rattle.block_change.specs.declared.directory.Directory.{Directory}

-- where a name stands in a list of names
abbrev pub place_of : List ℕ → List (List ℕ) → Option ℕ
place_of name names = position (bytes_eq name) names

abbrev pub file_names : List File → List (List ℕ)
file_names files = map (λ (f : File). f.name) files

-- the names of the fields of each file
abbrev pub field_names : List File → List (List (List ℕ))
field_names files = map (λ (f : File). variable_names f.fields) files

-- the names of the variables and files of a block, and of the fields of each file
abbrev pub names_of : Block → BlockNames
names_of k = record {
  variables = variable_names k.variables;
  files = file_names k.files;
  fields = field_names k.files;
}

-- no two variables, no two files, and no two fields of a file have one name
pub record AreNamedApart (k : Block) : Type 0 where
  pub variables : IsDistinct bytes_eq (variable_names k.variables)
  pub files : IsDistinct bytes_eq (file_names k.files)
  pub fields : AllByRecursion (λ (f : File). IsDistinct bytes_eq (variable_names f.fields)) k.files

-- these are the names of the exchange
pub record IsDirectory (x : Exchange) (d : Directory) : Type 0 where
  pub signals : d.signals ≡ names_of_signals x.signals
  pub blocks : d.blocks ≡ names_of_blocks x.blocks
  pub inside : d.inside ≡ map names_of x.blocks
