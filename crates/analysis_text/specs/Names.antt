-- How an analysis names what has a number. Variables, fields and files are numbered through the
-- exchange, and a number that it does not have is named by no bytes.
use Rattle.std.specs.Prelude.{ℕ, List, [], ◌++◌, codes, flat_map, map, slice_get}
use Rattle.std.specs.Option.{unwrap_or}
use Rattle.std.specs.Fmt.{decimal}
use Rattle.plex_num.specs.declared.level.Level.{Level}
use Rattle.plex_num.specs.declared.level.Level.TheVariants.{A, B, C, D}
use Rattle.exchange_model.specs.declared.block.Block.{Block}
use Rattle.exchange_model.specs.declared.block.File.{File}
use Rattle.exchange_model.specs.declared.block.Variable.{Variable}
use Rattle.flow_points.specs.declared.fact.Value.{Value}
use Rattle.flow_points.specs.declared.fact.Value.TheVariants.{Arg, Const, Any}
use Rattle.analysis_text.specs.declared.names.Names.{Names}

-- `BLOCK.NAME`
abbrev pub own_name : List ℕ → List ℕ → List ℕ
own_name block name = block ++ codes "." ++ name

-- those of the variables, the fields and the files of a block
abbrev pub variables_of : Block → List (List ℕ)
variables_of b = map (λ (v : Variable). own_name b.name v.name) b.variables

abbrev pub fields_of_file : List ℕ → File → List (List ℕ)
fields_of_file block f = map (λ (v : Variable). own_name block v.name) f.fields

abbrev pub fields_of : Block → List (List ℕ)
fields_of b = flat_map (fields_of_file b.name) b.files

abbrev pub files_of : Block → List (List ℕ)
files_of b = map (λ (f : File). own_name b.name f.name) b.files

-- those of all blocks: what has number n is the n-th
abbrev pub names_of : List Block → Names
names_of blocks = record {
  variables = flat_map variables_of blocks;
  fields = flat_map fields_of blocks;
  files = flat_map files_of blocks;
}

abbrev pub name_at : List (List ℕ) → ℕ → List ℕ
name_at names n = unwrap_or (slice_get names n) []

abbrev pub level_word : Level → List ℕ
level_word A = codes "A"
level_word B = codes "B"
level_word C = codes "C"
level_word D = codes "D"

abbrev pub value_words : Value → List ℕ
value_words (Arg k) = codes "ARG " ++ decimal k
value_words (Const c) = codes "CONST " ++ decimal c
value_words Any = codes "ANY"
