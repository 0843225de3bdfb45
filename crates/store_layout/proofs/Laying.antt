-- The rows of a layout, made block by block and file by file.
use Rattle.std.proofs.Common.{◌≡◌, ℕ, ◌+◌, ◌<◌, ◌≤◌, List, [], ◌∷◌, ◌++◌, length, take, map, get_or}
use Rattle.std.proofs.Common.{sum_by, Some, slice_get, refl, sym, ap, ◌∙◌, subst, arith}
use Rattle.std.proofs.Common.{append_assoc}
use Rattle.std.specs.List.{AllByRecursion}
use Rattle.std.proofs.lemmas.Option.{slice_get_read}
use Rattle.std.proofs.lemmas.List.{append-nil, map-append, take_more, take_all}
use Rattle.std.proofs.lemmas.List.Sums.{sum_by-cons, sum_by_more}
use Rattle.exchange_model.specs.declared.block.Block.{Block}
use Rattle.exchange_model.specs.declared.block.File.{File}
use Rattle.exchange_model.specs.Cells.{Placed, block_cells, cell_count, file_cells, placed_files}
use Rattle.exchange_model.specs.Cells.{placed_from, placed_in, record_cells}
use Rattle.exchange_model.specs.Kept.{FileFits, IsExchange}
use Rattle.exchange_model.specs.Parts.{Parts}
use Rattle.exchange_model.proofs.Facts.{cells_few, file_number}
use Rattle.store_layout.specs.declared.row.BlockRow.{BlockRow}
use Rattle.store_layout.specs.declared.row.FileRow.{FileRow}
use Rattle.store_layout.specs.Laid.{IsLayout, block_rows, file_row}

-- one more file, or one more block

placed_in-push : (b cell : ℕ) (fs : List File) (f : File)
    → placed_in b cell (fs ++ f ∷ []) ≡ placed_in b cell fs
    ++ record { block = b; file = f; first = cell + sum_by file_cells fs } ∷ []
placed_in-push b cell [] f =
    let none : cell ≡ cell + 0 = omega arith in
    ap (λ n. record { block = b; file = f; first = n } ∷ []) none
placed_in-push b cell (g ∷ gs) f =
    let here : Placed = record { block = b; file = g; first = cell } in
    let more : sum_by file_cells (g ∷ gs) ≡ file_cells g + sum_by file_cells gs = sum_by-cons file_cells g gs in
    let at : cell + file_cells g + sum_by file_cells gs ≡ cell + sum_by file_cells (g ∷ gs) = omega (arith, more) in
    ap (λ (ps : List Placed). here ∷ ps) (placed_in-push b (cell + file_cells g) gs f)
    ∙ ap (λ n. here ∷ (placed_in b (cell + file_cells g) gs ++ record { block = b; file = f; first = n } ∷ [])) at

placed_from-push : (b cell : ℕ) (bs : List Block) (k : Block)
    → placed_from b cell (bs ++ k ∷ []) ≡ placed_from b cell bs
    ++ placed_in (b + length bs) (cell + cell_count bs + length k.variables) k.files
placed_from-push b cell [] k =
    let number : b ≡ b + 0 = omega arith in
    let at : cell + length k.variables ≡ cell + 0 + length k.variables = omega arith in
    append-nil (placed_in b (cell + length k.variables) k.files)
    ∙ ap (λ n. placed_in n (cell + length k.variables) k.files) number ∙ ap (λ n. placed_in (b + 0) n k.files) at
placed_from-push b cell (c ∷ bs) k =
    let here : List Placed = placed_in b (cell + length c.variables) c.files in
    let rest : List Placed = placed_from (b + 1) (cell + block_cells c) bs in
    let more : cell_count (c ∷ bs) ≡ block_cells c + cell_count bs = sum_by-cons block_cells c bs in
    let number : b + 1 + length bs ≡ b + length (c ∷ bs) = omega arith in
    let at : cell + block_cells c + cell_count bs + length k.variables ≡ cell + cell_count (c ∷ bs) + length k.variables = omega (arith, more) in
    ap (λ (ps : List Placed). here ++ ps) (placed_from-push (b + 1) (cell + block_cells c) bs k)
    ∙ sym (append_assoc here rest (placed_in (b + 1 + length bs) (cell + block_cells c + cell_count bs + length k.variables) k.files))
    ∙ ap (λ n. (here ++ rest) ++ placed_in n (cell + block_cells c + cell_count bs + length k.variables) k.files) number
    ∙ ap (λ n. (here ++ rest) ++ placed_in (b + length (c ∷ bs)) n k.files) at

block_rows-push : (word : ℕ) (bs : List Block) (k : Block)
    → block_rows word (bs ++ k ∷ []) ≡ block_rows word bs
    ++ record { first = word + cell_count bs; variables = length k.variables } ∷ []
block_rows-push word [] k =
    let none : word ≡ word + 0 = omega arith in
    ap (λ n. record { first = n; variables = length k.variables } ∷ []) none
block_rows-push word (c ∷ bs) k =
    let here : BlockRow = record { first = word; variables = length c.variables } in
    let more : cell_count (c ∷ bs) ≡ block_cells c + cell_count bs = sum_by-cons block_cells c bs in
    let at : word + block_cells c + cell_count bs ≡ word + cell_count (c ∷ bs) = omega (arith, more) in
    ap (λ (rs : List BlockRow). here ∷ rs) (block_rows-push (word + block_cells c) bs k)
    ∙ ap (λ n. here ∷ (block_rows (word + block_cells c) bs
    ++ record { first = n; variables = length k.variables } ∷ [])) at

-- a row does not tell its block
pub file_rows_alike : (b c cell : ℕ) (fs : List File) → map file_row (placed_in b cell fs) ≡ map file_row (placed_in c cell fs)
file_rows_alike b c cell [] = refl
file_rows_alike b c cell (f ∷ fs) = ap (λ (rs : List FileRow). file_row (record { block = b; file = f; first = cell })
    ∷ rs) (file_rows_alike b c (cell + file_cells f) fs)

-- the files of a block so far

pub record FilesLaid (old rows : List FileRow) (first word index : ℕ) (fs : List File) : Type 0 where
  pub so_far : rows ≡ old ++ map file_row (placed_in 0 first (take index fs))
  pub next : word ≡ first + sum_by file_cells (take index fs)

pub files_laid_begin : (old : List FileRow) (first : ℕ) (fs : List File) → FilesLaid old old first first 0 fs
files_laid_begin old first fs = record { so_far = sym (append-nil old); next = omega arith }

pub files_laid_more : (old rows new : List FileRow) (first word index fields stride cells : ℕ) (fs : List File)
    (f : File) → index < length fs → f ≡ get_or fs index f → fields ≡ length f.fields → stride ≡ record_cells f
    → cells ≡ file_cells f → new ≡ rows ++ record
    { number = f.number; first = word; size = f.size; fields = fields; stride = stride } ∷ []
    → FilesLaid old rows first word index fs → FilesLaid old new first (word + cells) (index + 1) fs
files_laid_more old rows new first word index fields stride cells fs f inside is held wide many pushed l =
    let front : List File = take index fs in
    let longer : take (index + 1) fs ≡ front ++ f ∷ [] = take_more fs index f inside ∙ ap (λ (g : File). front ++ g ∷ []) (sym is) in
    let placed : Placed = record { block = 0; file = f; first = first + sum_by file_cells front } in
    let row : FileRow = record { number = f.number; first = word; size = f.size; fields = fields; stride = stride } in
    let same : row ≡ file_row placed = λ i. record { number = f.number; first = l.next i; size = f.size; fields = held i; stride = wide i } in
    let rest : map file_row (placed_in 0 first (take (index + 1) fs)) ≡ map file_row (placed_in 0 first front)
    ++ file_row placed ∷ [] = ap (λ (gs : List File). map file_row (placed_in 0 first gs)) longer
    ∙ ap (λ (ps : List Placed). map file_row ps) (placed_in-push 0 first front f)
    ∙ map-append file_row (placed_in 0 first front) (placed ∷ []) in
    let at_file : file_cells (get_or fs index f) ≡ file_cells f = ap file_cells (sym is) in
    record {
      so_far =
          pushed ∙ ap (λ (rs : List FileRow). rs ++ row ∷ []) l.so_far ∙ ap (λ (r : FileRow). (old ++ map file_row (placed_in 0 first front)) ++ r ∷ []) same
          ∙ append_assoc old (map file_row (placed_in 0 first front)) (file_row placed ∷ []) ∙ ap (λ (rs : List FileRow). old ++ rs) (sym rest);
      next = omega (arith, l.next, many, at_file, sum_by_more file_cells fs index f inside);
    }

pub files_laid_end : (old rows : List FileRow) (first word index : ℕ) (fs : List File) → length fs ≤ index
    → FilesLaid old rows first word index fs → (rows ≡ old ++ map file_row (placed_in 0 first fs))
    × (word ≡ first + sum_by file_cells fs)
files_laid_end old rows first word index fs past l =
    let all : take index fs ≡ fs = take_all index fs past in
    (l.so_far ∙ ap (λ (gs : List File). old ++ map file_row (placed_in 0 first gs)) all, l.next ∙ ap (λ (gs : List File). first + sum_by file_cells gs) all)

-- the blocks so far

pub record Laid (rows : List BlockRow) (files : List FileRow) (word index : ℕ) (bs : List Block) : Type 0 where
  pub blocks : rows ≡ block_rows 0 (take index bs)
  pub placed : files ≡ map file_row (placed_from 0 0 (take index bs))
  pub next : word ≡ cell_count (take index bs)

pub laid_begin : (bs : List Block) → Laid [] [] 0 0 bs
laid_begin bs = record { blocks = refl; placed = refl; next = refl }

-- the blocks are read from `items`
pub laid_more : (rows wider : List BlockRow) (files more : List FileRow) (word next index variables : ℕ)
    (bs items : List Block) (k : Block) (fs : List File) → items ≡ bs → index < length items → k ≡ get_or items index k
    → variables ≡ length k.variables → fs ≡ k.files
    → wider ≡ rows ++ record { first = word; variables = variables } ∷ []
    → more ≡ files ++ map file_row (placed_in 0 (word + variables) fs) → next ≡ word + variables + sum_by file_cells fs
    → Laid rows files word index bs → Laid wider more next (index + 1) bs
laid_more rows wider files more word next index variables bs items k fs read_from within read own listed pushed appended counted l =
    let inside : index < length bs = omega (arith, within, ap length read_from) in
    let is : k ≡ get_or bs index k = read ∙ ap (λ (ks : List Block). get_or ks index k) read_from in
    let front : List Block = take index bs in
    let longer : take (index + 1) bs ≡ front ++ k ∷ [] = take_more bs index k inside ∙ ap (λ (c : Block). front ++ c ∷ []) (sym is) in
    let at_block : block_cells (get_or bs index k) ≡ block_cells k = ap block_cells (sym is) in
    let row : BlockRow = record { first = word; variables = variables } in
    let same : row ≡ record { first = 0 + cell_count front; variables = length k.variables } =
    let begins : word ≡ 0 + cell_count front = omega (arith, l.next) in λ i. record { first = begins i; variables = own i } in
    let at : word + variables ≡ 0 + cell_count front + length k.variables = omega (arith, l.next, own) in
    let all : map file_row (placed_from 0 0 (take (index + 1) bs)) ≡ map file_row (placed_from 0 0 front)
    ++ map file_row (placed_in (0 + length front) (0 + cell_count front + length k.variables) k.files) =
    ap (λ (cs : List Block). map file_row (placed_from 0 0 cs)) longer
    ∙ ap (λ (ps : List Placed). map file_row ps) (placed_from-push 0 0 front k)
    ∙ map-append file_row (placed_from 0 0 front)
    (placed_in (0 + length front) (0 + cell_count front + length k.variables) k.files) in
    record {
      blocks = pushed ∙ ap (λ (rs : List BlockRow). rs ++ row ∷ []) l.blocks
          ∙ ap (λ (r : BlockRow). block_rows 0 front ++ r ∷ []) same ∙ sym (block_rows-push 0 front k)
          ∙ ap (block_rows 0) (sym longer);
      placed =
          appended ∙ ap (λ (gs : List File). files ++ map file_row (placed_in 0 (word + variables) gs)) listed
          ∙ ap (λ (rs : List FileRow). rs ++ map file_row (placed_in 0 (word + variables) k.files)) l.placed
          ∙ ap (λ n. map file_row (placed_from 0 0 front) ++ map file_row (placed_in 0 n k.files)) at
          ∙ ap (λ (rs : List FileRow). map file_row (placed_from 0 0 front) ++ rs)
          (file_rows_alike 0 (0 + length front) (0 + cell_count front + length k.variables) k.files)
          ∙ sym all;
      next = omega (arith, l.next, counted, own, at_block, ap (sum_by file_cells) listed, sum_by_more block_cells bs index k inside);
    }

pub laid_end : (x : Parts) (items : List Block) (rows : List BlockRow) (files : List FileRow) (word index : ℕ)
    → IsExchange x → items ≡ x.blocks → length items ≤ index → Laid rows files word index x.blocks
    → IsLayout x.blocks (record { blocks = rows; files = files; cells = word })
unfolding placed_files
laid_end x items rows files word index kept read_from past l =
    let all : take index x.blocks ≡ x.blocks = take_all index x.blocks (omega (arith, past, ap length read_from)) in
    record {
      blocks = l.blocks ∙ ap (block_rows 0) all;
      files = l.placed ∙ ap (λ (bs : List Block). map file_row (placed_from 0 0 bs)) all;
      cells = l.next ∙ ap cell_count all;
      numbered = file_number x kept;
      short = kept.blocks.few;
      few = cells_few x kept;
    }

-- the files of a block keep what files keep
pub files_fit : (x : Parts) (items : List Block) (index : ℕ) (k : Block) (fs : List File) → IsExchange x
    → items ≡ x.blocks → index < length items → k ≡ get_or items index k → fs ≡ k.files → AllByRecursion FileFits fs
files_fit x items index k fs kept read_from within read listed =
    let there : slice_get x.blocks index ≡ Some k = ap (λ (ks : List Block). slice_get ks index) (sym read_from)
    ∙ slice_get_read items (length items) index k refl within read in
    subst (AllByRecursion FileFits) (sym listed) (kept.blocks.each index k there).files
