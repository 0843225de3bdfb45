-- Files are numbered through all blocks, from 0 on.
use Rattle.std.proofs.Common.{◌≡◌, ℕ, ◌+◌, List, [], ◌∷◌, ◌++◌, length, map, refl, sym, ◌∙◌, ap}
use Rattle.std.proofs.Common.{length-append}
use Rattle.std.proofs.lemmas.List.{length-map, map-append}
use Rattle.std.specs.List.{range_with_len}
use Rattle.plex_ast.specs.declared.block.Block.{Block as TreeBlock}
use Rattle.plex_ast.specs.declared.block.Decl.{Decl}
use Rattle.plex_ast.specs.declared.block.DeclKind.{DeclKind}
use Rattle.plex_ast.specs.declared.block.DeclKind.TheVariants as decl
use Rattle.exchange_model.specs.declared.signal.SignalKind.{SignalKind}
use Rattle.exchange_model.specs.declared.block.File.{File}
use Rattle.exchange_model.specs.Cells.{Placed, file_cells, block_cells, placed_in, placed_from}
use Rattle.resolved_block.specs.Texts.{typed_from}
use Rattle.resolved_block.specs.declared.parts.First.{First}
use Rattle.resolved_block.specs.Blocks.{kind_files, files_from, typed_of}
use Rattle.text_soundness.proofs.Ranges.{range_join}

-- these numbers are those from n on
abbrev pub Counts : List ℕ → ℕ → Type 0
Counts numbers n = numbers ≡ range_with_len n (length numbers)

counts_first : (n : ℕ) (rest : List ℕ) → Counts rest (n + 1) → Counts (n ∷ rest) n
counts_first n rest h = ap (λ r. n ∷ r) h

counts_join : (xs ys : List ℕ) (n : ℕ) → Counts xs n → Counts ys (n + length xs) → Counts (xs ++ ys) n
counts_join xs ys n f g =
    ap (λ r. r ++ ys) f ∙ ap (λ r. range_with_len n (length xs) ++ r) g ∙ range_join n (length xs) (length ys)
    ∙ ap (range_with_len n) (sym (length-append xs ys))

abbrev file_numbers : List File → List ℕ
file_numbers files = map (λ (f : File). f.number) files

abbrev placed_numbers : List Placed → List ℕ
placed_numbers files = map (λ (p : Placed). p.file.number) files

-- the files of a block
kind_count : (k : DeclKind) (n : ℕ) (rest : ℕ → List File) → ((m : ℕ) → Counts (file_numbers (rest m)) m) → Counts (file_numbers (kind_files k n rest)) n
kind_count (decl.Variable name width init clear) n rest h = h n
kind_count (decl.Temporary name) n rest h = h n
kind_count (decl.File forlopp name size fields) n rest h = counts_first n (file_numbers (rest (n + 1))) (h (n + 1))

files_count : (decls : List Decl) (n : ℕ) → Counts (file_numbers (files_from decls n)) n
unfolding files_from
files_count [] n = refl
files_count (d ∷ rest) n = kind_count d.kind n (files_from rest) (λ m. files_count rest m)

placed_same : (block cell : ℕ) (files : List File) → placed_numbers (placed_in block cell files) ≡ file_numbers files
placed_same block cell [] = refl
placed_same block cell (f ∷ fs) = ap (λ r. f.number ∷ r) (placed_same block (cell + file_cells f) fs)

block_count : (signals : List SignalKind) (blocks : List TreeBlock) (first : First) (b : TreeBlock)
    → Counts (file_numbers (typed_of signals blocks first b).block.files) first.file
unfolding typed_of
block_count signals blocks first b = files_count b.decls first.file

pub next_file : (signals : List SignalKind) (blocks : List TreeBlock) (first : First) (b : TreeBlock)
    → (typed_of signals blocks first b).next.file ≡ first.file + length (typed_of signals blocks first b).block.files
unfolding typed_of
next_file signals blocks first b = refl

-- those of all blocks
pub all_count : (signals : List SignalKind) (blocks : List TreeBlock) (first : First) (list : List TreeBlock)
    (number cell : ℕ) → Counts (placed_numbers (placed_from number cell (typed_from signals blocks first list)))
    first.file
unfolding typed_from
all_count signals blocks first [] number cell = refl
all_count signals blocks first (b ∷ rest) number cell =
    let t = typed_of signals blocks first b in
    let here = placed_in number (cell + length t.block.variables) t.block.files in
    let others = placed_from (number + 1) (cell + block_cells t.block) (typed_from signals blocks t.next rest) in
    let same : placed_numbers here ≡ file_numbers t.block.files = placed_same number (cell + length t.block.variables) t.block.files in
    let many : t.next.file ≡ first.file + length (placed_numbers here) = next_file signals blocks first b
    ∙ ap (λ n. first.file + n) (sym (length-map t.block.files _) ∙ ap length (sym same)) in
    rw (map-append (λ (p : Placed). p.file.number) here others)
    (counts_join (placed_numbers here) (placed_numbers others) first.file (rw same (block_count signals blocks first b))
    (rw (← many) (all_count signals blocks t.next rest (number + 1) (cell + block_cells t.block))))
