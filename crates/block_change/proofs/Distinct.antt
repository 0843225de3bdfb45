-- The names of an exchange are different where its rules say so.
use Rattle.std.proofs.Common.{◌≡◌, ℕ, Bool, false, List, [], ◌∷◌, ◌++◌, map}
use Rattle.std.specs.List.{AllByRecursion, IsDistinct}
use Rattle.std.specs.Str.{bytes_eq}
use Rattle.exchange_model.specs.declared.block.Block.{Block}
use Rattle.exchange_model.specs.declared.block.File.{File}
use Rattle.exchange_model.specs.declared.block.Label.{Label}
use Rattle.exchange_model.specs.declared.exchange.Exchange.{Exchange}
use Rattle.exchange_model.specs.Inside.{joined}
use Rattle.exchange_model.specs.Kept.{BlockKept, IsExchange, variable_names}
use Rattle.block_change.specs.Names.{AreNamedApart, file_names}
use Rattle.exchange_model.specs.Names.{names_of_blocks, names_of_signals}
use Rattle.plex_num.proofs.Lists.{all_from, all_left, all_right}

pub distinct_left : {K : Type 0} (e : K → K → Bool) (xs ys : List K) → IsDistinct e (xs ++ ys) → IsDistinct e xs
unfolding IsDistinct
distinct_left e [] ys apart = tt
distinct_left e (x ∷ xs) ys apart = (all_left (λ y. e x y ≡ false) xs ys apart.0, distinct_left e xs ys apart.1)

pub distinct_right : {K : Type 0} (e : K → K → Bool) (xs ys : List K) → IsDistinct e (xs ++ ys) → IsDistinct e ys
unfolding IsDistinct
distinct_right e [] ys apart = apart
distinct_right e (x ∷ xs) ys apart = distinct_right e xs ys apart.1

-- the names of a file and of its fields
abbrev file_part : File → List (List ℕ)
file_part f = f.name ∷ variable_names f.fields

file_all : (P : List ℕ → Type 0) (fs : List File) → AllByRecursion P (joined (map file_part fs)) → AllByRecursion P (file_names fs)
file_all P [] all = tt
file_all P (f ∷ rest) all = (all.0, file_all P rest (all_right P (variable_names f.fields) (joined (map file_part rest)) all.1))

files_apart : (fs : List File) → IsDistinct bytes_eq (joined (map file_part fs)) → IsDistinct bytes_eq (file_names fs)
unfolding IsDistinct
files_apart [] apart = tt
files_apart (f ∷ rest) apart = (
  file_all (λ n. bytes_eq f.name n ≡ false) rest (all_right (λ n. bytes_eq f.name n ≡ false) (variable_names f.fields) (joined (map file_part rest)) apart.0),
  files_apart rest (distinct_right bytes_eq (variable_names f.fields) (joined (map file_part rest)) apart.1),
)

fields_apart : (fs : List File) → IsDistinct bytes_eq (joined (map file_part fs))
    → AllByRecursion (λ (f : File). IsDistinct bytes_eq (variable_names f.fields)) fs
unfolding IsDistinct
fields_apart [] apart = tt
fields_apart (f ∷ rest) apart = (
  distinct_left bytes_eq (variable_names f.fields) (joined (map file_part rest)) apart.1,
  fields_apart rest (distinct_right bytes_eq (variable_names f.fields) (joined (map file_part rest)) apart.1),
)

pub named_apart : (x : Exchange) (b : ℕ) (k : Block) → BlockKept x b k → AreNamedApart k
named_apart x b k kept =
    let vs = variable_names k.variables in
    let fs = joined (map file_part k.files) in
    let ls = map (λ (l : Label). l.name) k.labels in
    let files = distinct_left bytes_eq fs ls (distinct_right bytes_eq k.temporaries (fs ++ ls)
    (distinct_right bytes_eq vs (k.temporaries ++ (fs ++ ls)) kept.names)) in
    record {
      variables = distinct_left bytes_eq vs (k.temporaries ++ (fs ++ ls)) kept.names;
      files = files_apart k.files files;
      fields = fields_apart k.files files;
    }

pub all_apart : (x : Exchange) → IsExchange x → AllByRecursion AreNamedApart x.blocks
all_apart x kept = all_from AreNamedApart x.blocks (λ b k there. named_apart x b k (kept.blocks.each b k there))

pub signals_apart : (x : Exchange) → IsExchange x → IsDistinct bytes_eq (names_of_signals x.signals)
signals_apart x kept = kept.signals.names

pub blocks_apart : (x : Exchange) → IsExchange x → IsDistinct bytes_eq (names_of_blocks x.blocks)
blocks_apart x kept = kept.blocks.names
