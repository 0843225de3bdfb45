-- The rows of a layout, read for a cell or for a word.
use Rattle.std.proofs.Common.{◌≡◌, ℕ, zero, suc, ◌+◌, ◌-◌, ◌*◌, ◌/◌, ◌%◌, ◌<◌, ◌≤◌, inl, inr, true}
use Rattle.std.proofs.Common.{false, List, [], ◌∷◌, length, take, get_or, leb, Some, slice_get}
use Rattle.std.proofs.Common.{refl, sym, ap, ◌∙◌, subst, arith}
use Rattle.std.specs.Option.{option_map}
use Rattle.std.specs.List.Sorted.{IsNonDecreasingBy, IsPartitionPoint}
use Rattle.std.proofs.lemmas.Bool.{cases_lt, cases_order, leb-false, leb-true, true_from_ne_false}
use Rattle.std.proofs.lemmas.List.{length-map}
use Rattle.std.proofs.lemmas.List.Sums.{sum_by-cons}
use Rattle.std.proofs.lemmas.Nat.{div-add-mod', mod_below, mul-le}
use Rattle.std.proofs.lemmas.Option.{none-some, same_Some, slice_get-map, slice_get-get_or}
use Rattle.std.proofs.lemmas.Option.{slice_get_cases, slice_get_within, get_or_from_slice_get}
use Rattle.exchange_model.specs.declared.block.Block.{Block}
use Rattle.exchange_model.specs.declared.entry.Cell.{Cell}
use Rattle.exchange_model.specs.declared.entry.Cell.TheVariants.{Variable, Field, Mark}
use Rattle.plex_limits.specs.declared.limits.TheConstants.{MOST_BLOCKS, MOST_CELLS}
use Rattle.exchange_model.specs.Cells.{Placed, block_cells, cell_count, field_cell, file_cells}
use Rattle.exchange_model.specs.Cells.{first_cell, marks, mark_cell, placed_files, record_cells}
use Rattle.exchange_model.specs.Cells.{IsCell, cell_number}
use Rattle.exchange_model.proofs.Numbers.{cell_number-below, cell_number-field, cell_number-mark}
use Rattle.exchange_model.proofs.Numbers.{field_is_cell, mark_is_cell, there_from, variable_is_cell}
use Rattle.exchange_model.proofs.Places.{InFile, blocks_rise, covered, files_rise, file_within}
use Rattle.store_layout.specs.declared.row.BlockRow.{BlockRow}
use Rattle.store_layout.specs.declared.row.FileRow.{FileRow}
use Rattle.store_layout.specs.Laid.{HasCell, HasWord, IsLayout, block_rows, file_row}
use Rattle.store_layout.specs.Rows.{Rows}
use Rattle.store_layout.specs.Search.{IsIn, IsLastUpTo, IsMarkAt, SomeUpTo}

-- rows

pub slice_get-block_rows : (word : ℕ) (bs : List Block) (b : ℕ) (k : Block) → slice_get bs b ≡ Some k
    → slice_get (block_rows word bs) b ≡ Some (record
    { first = word + first_cell bs b; variables = length k.variables })
slice_get-block_rows word [] b k h = absurd (none-some k h)
slice_get-block_rows word (c ∷ cs) zero k h =
    let same : c ≡ k = same_Some c k h in
    let none : word ≡ word + 0 = omega arith in
    λ i. Some (record { first = none i; variables = length (same i).variables })
slice_get-block_rows word (c ∷ cs) (suc b) k h =
    let more : cell_count (c ∷ take b cs) ≡ block_cells c + cell_count (take b cs) = sum_by-cons block_cells c (take b cs) in
    let at : word + block_cells c + first_cell cs b ≡ word + first_cell (c ∷ cs) (suc b) = omega (arith, more) in
    slice_get-block_rows (word + block_cells c) cs b k h ∙ ap (λ n. Some (record { first = n; variables = length k.variables })) at

length-block_rows : (word : ℕ) (bs : List Block) → length (block_rows word bs) ≡ length bs
length-block_rows word [] = refl
length-block_rows word (b ∷ bs) = ap suc (length-block_rows (word + block_cells b) bs)

abbrev block_row : List Block → ℕ → Block → BlockRow
block_row bs b k = record { first = first_cell bs b; variables = length k.variables }

block_row_at : (bs : List Block) (l : Rows) (b : ℕ) (k : Block) → IsLayout bs l → slice_get bs b ≡ Some k → slice_get l.blocks b ≡ Some (block_row bs b k)
block_row_at bs l b k laid h =
    let none : 0 + first_cell bs b ≡ first_cell bs b = omega arith in
    ap (λ (rs : List BlockRow). slice_get rs b) laid.blocks ∙ slice_get-block_rows 0 bs b k h
    ∙ ap (λ n. Some (record { first = n; variables = length k.variables })) none

-- what stands at a place within a list
record At {X : Type 0} (xs : List X) (i : ℕ) : Type 0 where
  pub one : X
  pub there : slice_get xs i ≡ Some one

at_place : {X : Type 0} (xs : List X) (i : ℕ) → i < length xs → At xs i
at_place xs i within = elim (slice_get_cases xs i).1 [ inl h ↦ record { one = h.0; there = h.2 } | inr h ↦ absurd (omega (arith, h.0)) ]

-- the block of a row, and the file of one

record OfBlock (bs : List Block) (b : ℕ) (row : BlockRow) : Type 0 where
  pub block : Block
  pub there : slice_get bs b ≡ Some block
  pub is : row ≡ block_row bs b block

of_block : (bs : List Block) (l : Rows) (b : ℕ) (row : BlockRow) → IsLayout bs l → slice_get l.blocks b ≡ Some row → OfBlock bs b row
of_block bs l b row laid h =
    let within : b < length bs = omega (arith, slice_get_within l.blocks b row h, ap length laid.blocks, length-block_rows 0 bs) in
    let k = at_place bs b within in
    record { block = k.one; there = k.there; is = same_Some row (block_row bs b k.one) (sym h ∙ block_row_at bs l b k.one laid k.there) }

pub file_row_at : (bs : List Block) (l : Rows) (f : ℕ) (p : Placed) → IsLayout bs l
    → slice_get (placed_files bs) f ≡ Some p → slice_get l.files f ≡ Some (file_row p)
file_row_at bs l f p laid h = ap (λ (rs : List FileRow). slice_get rs f) laid.files ∙ slice_get-map file_row (placed_files bs) f ∙ ap (option_map file_row) h

record OfFile (bs : List Block) (f : ℕ) (row : FileRow) : Type 0 where
  pub placed : Placed
  pub there : slice_get (placed_files bs) f ≡ Some placed
  pub is : row ≡ file_row placed

of_file : (bs : List Block) (l : Rows) (f : ℕ) (row : FileRow) → IsLayout bs l → slice_get l.files f ≡ Some row → OfFile bs f row
of_file bs l f row laid h =
    let within : f < length (placed_files bs) = omega (arith, slice_get_within l.files f row h, ap length laid.files, length-map (placed_files bs) file_row) in
    let p = at_place (placed_files bs) f within in
    record { placed = p.one; there = p.there; is = same_Some row (file_row p.one) (sym h ∙ file_row_at bs l f p.one laid p.there) }

-- the word of a cell

-- what is known where the cell of an exchange is asked for
pub cell_fits : (bs : List Block) (l : Rows) (c : Cell) → IsLayout bs l → IsCell bs c → cell_number bs c ≤ MOST_CELLS
cell_fits bs l c laid is = omega (arith, cell_number-below bs c is, laid.few)

pub variable_within : (l : Rows) (c : Cell) (b i : ℕ) → HasCell l c → c ≡ Variable b i → b < length l.blocks
variable_within l c b i asked is =
    let t = there_from (slice_get asked.blocks b) (λ (k : Block). i < length k.variables) (subst (IsCell asked.blocks) is asked.cell) in
    slice_get_within l.blocks b (block_row asked.blocks b t.value) (block_row_at asked.blocks l b t.value asked.layout t.is)

pub variable_word : (bs : List Block) (l : Rows) (c : Cell) (b i : ℕ) (row : BlockRow) → slice_get l.blocks b ≡ Some row
    → c ≡ Variable b i → IsLayout bs l → IsCell bs c → row.first + i ≡ cell_number bs c
variable_word bs l c b i row read is laid cell =
    let t = there_from (slice_get bs b) (λ (k : Block). i < length k.variables) (subst (IsCell bs) is cell) in
    let same : row ≡ block_row bs b t.value = same_Some row (block_row bs b t.value) (sym read ∙ block_row_at bs l b t.value laid t.is) in
    ap (λ (r : BlockRow). r.first + i) same ∙ ap (cell_number bs) (sym is)

pub variable_fits : (l : Rows) (c : Cell) (b i : ℕ) (row : BlockRow) → HasCell l c → c ≡ Variable b i
    → slice_get l.blocks b ≡ Some row → row.first + i ≤ MOST_CELLS
variable_fits l c b i row asked is read =
    omega (arith, variable_word asked.blocks l c b i row read is asked.layout asked.cell, cell_fits asked.blocks l c asked.layout asked.cell)

pub field_within : (l : Rows) (c : Cell) (f n x : ℕ) → HasCell l c → c ≡ Field f n x → f < length l.files
field_within l c f n x asked is =
    let t = there_from (slice_get (placed_files asked.blocks) f)
    (λ (p : Placed). (n < p.file.size) × (x < length p.file.fields)) (subst (IsCell asked.blocks) is asked.cell) in
    slice_get_within l.files f (file_row t.value) (file_row_at asked.blocks l f t.value asked.layout t.is)

pub field_word : (bs : List Block) (l : Rows) (c : Cell) (f n x : ℕ) (row : FileRow) → slice_get l.files f ≡ Some row
    → c ≡ Field f n x → IsLayout bs l → IsCell bs c → row.first + n * row.stride + x ≡ cell_number bs c
field_word bs l c f n x row read is laid cell =
    let t = there_from (slice_get (placed_files bs) f) (λ (p : Placed). (n < p.file.size) × (x < length p.file.fields)) (subst (IsCell bs) is cell) in
    let same : row ≡ file_row t.value = same_Some row (file_row t.value) (sym read ∙ file_row_at bs l f t.value laid t.is) in
    ap (λ (r : FileRow). r.first + n * r.stride + x) same ∙ sym (cell_number-field bs f n x t.value t.is) ∙ ap (cell_number bs) (sym is)

pub field_fits : (l : Rows) (c : Cell) (f n x : ℕ) (row : FileRow) → HasCell l c → c ≡ Field f n x
    → slice_get l.files f ≡ Some row → row.first + n * row.stride + x ≤ MOST_CELLS
field_fits l c f n x row asked is read =
    omega (arith, field_word asked.blocks l c f n x row read is asked.layout asked.cell, cell_fits asked.blocks l c asked.layout asked.cell)

pub mark_within : (l : Rows) (c : Cell) (f n : ℕ) → HasCell l c → c ≡ Mark f n → f < length l.files
mark_within l c f n asked is =
    let t = there_from (slice_get (placed_files asked.blocks) f)
    (λ (p : Placed). (n < p.file.size) × (p.file.forlopp ≡ true)) (subst (IsCell asked.blocks) is asked.cell) in
    slice_get_within l.files f (file_row t.value) (file_row_at asked.blocks l f t.value asked.layout t.is)

pub mark_word : (bs : List Block) (l : Rows) (c : Cell) (f n : ℕ) (row : FileRow) → slice_get l.files f ≡ Some row
    → c ≡ Mark f n → IsLayout bs l → IsCell bs c → row.first + n * row.stride + row.fields ≡ cell_number bs c
mark_word bs l c f n row read is laid cell =
    let t = there_from (slice_get (placed_files bs) f) (λ (p : Placed). (n < p.file.size) × (p.file.forlopp ≡ true)) (subst (IsCell bs) is cell) in
    let same : row ≡ file_row t.value = same_Some row (file_row t.value) (sym read ∙ file_row_at bs l f t.value laid t.is) in
    ap (λ (r : FileRow). r.first + n * r.stride + r.fields) same ∙ sym (cell_number-mark bs f n t.value t.is) ∙ ap (cell_number bs) (sym is)

pub mark_fits : (l : Rows) (c : Cell) (f n : ℕ) (row : FileRow) → HasCell l c → c ≡ Mark f n
    → slice_get l.files f ≡ Some row → row.first + n * row.stride + row.fields ≤ MOST_CELLS
mark_fits l c f n row asked is read =
    omega (arith, mark_word asked.blocks l c f n row read is asked.layout asked.cell, cell_fits asked.blocks l c asked.layout asked.cell)

-- the cell of a word

abbrev begins_block : BlockRow → ℕ
begins_block r = r.first

abbrev begins_file : FileRow → ℕ
begins_file r = r.first

blocks_sorted : (bs : List Block) (l : Rows) → IsLayout bs l → (i j : ℕ) (x y : BlockRow) → i < j
    → slice_get l.blocks i ≡ Some x → slice_get l.blocks j ≡ Some y → x.first ≤ y.first
blocks_sorted bs l laid i j x y lt h k =
    let a = of_block bs l i x laid h in
    let b = of_block bs l j y laid k in
    omega (arith, blocks_rise bs i j a.block a.there lt, ap begins_block a.is, ap begins_block b.is)

files_sorted : (bs : List Block) (l : Rows) → IsLayout bs l → (i j : ℕ) (x y : FileRow) → i < j
    → slice_get l.files i ≡ Some x → slice_get l.files j ≡ Some y → x.first ≤ y.first
files_sorted bs l laid i j x y lt h k =
    let a = of_file bs l i x laid h in
    let b = of_file bs l j y laid k in
    omega (arith, files_rise bs i j a.placed b.placed lt a.there b.there, ap begins_file a.is, ap begins_file b.is)

sorted_from : {X : Type 0} (first : X → ℕ) (xs : List X)
    → ((i j : ℕ) (x y : X) → i < j → slice_get xs i ≡ Some x → slice_get xs j ≡ Some y → first x ≤ first y)
    → IsNonDecreasingBy first xs
sorted_from first xs rises = λ i j d le lt.
    elim (cases_lt i j) [
      | inl before ↦
          let inside : i < length xs = omega arith in
          rises i j (get_or xs i d) (get_or xs j d) before (slice_get-get_or xs i d inside) (slice_get-get_or xs j d lt)
      | inr same ↦ let one : first (get_or xs i d) ≡ first (get_or xs j d) = ap (λ k. first (get_or xs k d)) (omega arith) in omega (arith, one)
    ]

-- the place before the first that begins after the word
pub last_of : {X : Type 0} (first : X → ℕ) (xs : List X) (word i : ℕ) → SomeUpTo first xs word → i ≤ length xs
    → IsPartitionPoint (λ y. leb (first y) word ≡ true) (λ y. leb (first y) word ≡ false) xs i
    → (1 ≤ i) × IsLastUpTo first xs word (i - 1)
last_of first xs word i some within point =
    let positive : 1 ≤ i = elim (cases_lt 0 i) [
      | inl lt ↦ omega arith
      | inr none ↦
          let inside : some.place < length xs = slice_get_within xs some.place some.one some.there in
          let above = leb-false (first (get_or xs some.place some.one)) word (point.1 some.place some.one (omega arith) inside) in
          let at : first (get_or xs some.place some.one) ≡ first some.one = ap first (get_or_from_slice_get xs some.place some.one some.one some.there) in
          absurd (omega (arith, above, at, some.low))
    ] in (
      positive,
      record {
        within = omega arith;
        low = λ x there.
            let below = leb-true (first (get_or xs (i - 1) x)) word (point.0 (i - 1) x (omega arith) (omega arith)) in
            omega (arith, below, ap first (get_or_from_slice_get xs (i - 1) x x there));
        last = λ j x after there.
            let inside : j < length xs = slice_get_within xs j x there in
            let above = leb-false (first (get_or xs j x)) word (point.1 j x (omega arith) inside) in
            omega (arith, above, ap first (get_or_from_slice_get xs j x x there));
      },
    )

-- some block begins at the word or before it
pub some_block : (l : Rows) (word : ℕ) → HasWord l word → SomeUpTo begins_block l.blocks word
some_block l word asked =
    let bs : List Block = asked.blocks in
    elim (covered bs word asked.below) [
      | inl v ↦ record {
        sorted = sorted_from begins_block l.blocks (blocks_sorted bs l asked.layout);
        place = v.block;
        one = block_row bs v.block v.owner;
        there = block_row_at bs l v.block v.owner asked.layout v.there;
        low = omega (arith, v.from);
      }
      | inr r ↦
          let w = file_within bs r.number r.placed r.there in
          record {
            sorted = sorted_from begins_block l.blocks (blocks_sorted bs l asked.layout);
            place = r.placed.block;
            one = block_row bs r.placed.block w.owner;
            there = block_row_at bs l r.placed.block w.owner asked.layout w.there;
            low = omega (arith, w.after, r.from);
          }
    ]

-- the word of a variable of the last of those blocks
pub variable_found : (bs : List Block) (l : Rows) (word b : ℕ) (row : BlockRow) → IsLayout bs l
    → IsLastUpTo begins_block l.blocks word b → slice_get l.blocks b ≡ Some row → word - row.first < row.variables
    → IsCell bs (Variable b (word - row.first)) × (cell_number bs (Variable b (word - row.first)) ≡ word)
variable_found bs l word b row laid last there lt =
    let k = of_block bs l b row laid there in
    let low : row.first ≤ word = last.low row there in
    let first : row.first ≡ first_cell bs b = ap begins_block k.is in
    let many : row.variables ≡ length k.block.variables = ap (λ (r : BlockRow). r.variables) k.is in
    (variable_is_cell bs b (word - row.first) k.block k.there (omega (arith, many)), omega (arith, first, low))

-- a word that is no variable's
record NoVariable (l : Rows) (word b : ℕ) : Type 0 where
  pub last : IsLastUpTo begins_block l.blocks word b
  pub row : BlockRow
  pub there : slice_get l.blocks b ≡ Some row
  pub past : row.variables ≤ word - row.first

-- is in a file
in_file : (bs : List Block) (l : Rows) (word b : ℕ) → IsLayout bs l → word < cell_count bs → NoVariable l word b → InFile (placed_files bs) word
in_file bs l word b laid below none =
    let k = of_block bs l b none.row laid none.there in
    let first : none.row.first ≡ first_cell bs b = ap begins_block k.is in
    let many : none.row.variables ≡ length k.block.variables = ap (λ (r : BlockRow). r.variables) k.is in
    let low : none.row.first ≤ word = none.last.low none.row none.there in
    elim (covered bs word below) [
      | inr r ↦ r
      | inl v ↦ elim (cases_order v.block b) [
        | inl same ↦
            let owner : v.owner ≡ k.block = same_Some v.owner k.block (sym v.there ∙ ap (slice_get bs) same ∙ k.there) in
            let wide : length v.owner.variables ≡ length k.block.variables = ap (λ (c : Block). length c.variables) owner in
            let start : first_cell bs v.block ≡ first_cell bs b = ap (first_cell bs) same in
            absurd (omega (arith, v.from, v.below, none.past, many, wide, start, first, low))
        | inr (inl before) ↦ absurd (omega (arith, v.below, blocks_rise bs v.block b v.owner v.there before, first, low))
        | inr (inr after) ↦ absurd (omega (
          arith,
          v.from,
          none.last.last v.block (block_row bs v.block v.owner) after
              (block_row_at bs l v.block v.owner laid v.there),
        ))
      ]
    ]

pub some_file : (l : Rows) (word b : ℕ) (row : BlockRow) → HasWord l word → IsLastUpTo begins_block l.blocks word b
    → slice_get l.blocks b ≡ Some row → row.variables ≤ word - row.first → SomeUpTo begins_file l.files word
some_file l word b row asked last there past =
    let r = in_file asked.blocks l word b asked.layout asked.below (record { last = last; row = row; there = there; past = past }) in
    record {
      sorted = sorted_from begins_file l.files (files_sorted asked.blocks l asked.layout);
      place = r.number;
      one = file_row r.placed;
      there = file_row_at asked.blocks l r.number r.placed asked.layout r.there;
      low = r.from;
    }

-- the last of those files has the word
record Has (bs : List Block) (word f : ℕ) (row : FileRow) : Type 0 where
  pub placed : Placed
  pub there : slice_get (placed_files bs) f ≡ Some placed
  pub is : row ≡ file_row placed
  pub from : placed.first ≤ word
  pub below : word < placed.first + file_cells placed.file

has_word : (bs : List Block) (l : Rows) (word f : ℕ) (row : FileRow) → IsLayout bs l → InFile (placed_files bs) word
    → IsLastUpTo begins_file l.files word f → slice_get l.files f ≡ Some row → Has bs word f row
has_word bs l word f row laid r last there =
    let p = of_file bs l f row laid there in
    let low : p.placed.first ≤ word = omega (arith, last.low row there, ap begins_file p.is) in
    record {
      placed = p.placed;
      there = p.there;
      is = p.is;
      from = low;
      below = elim (cases_order r.number f) [
        | inl same ↦
            let one : r.placed ≡ p.placed = same_Some r.placed p.placed (sym r.there ∙ ap (slice_get (placed_files bs)) same ∙ p.there) in
            subst (λ (q : Placed). word < q.first + file_cells q.file) one r.below
        | inr (inl before) ↦ absurd (omega (arith, r.below, low, files_rise bs r.number f r.placed p.placed before r.there p.there))
        | inr (inr after) ↦ absurd (omega (arith, r.from, last.last r.number (file_row r.placed) after (file_row_at bs l r.number r.placed laid r.there)))
      ];
    }

some_wide : (bs : List Block) (word f : ℕ) (row : FileRow) → Has bs word f row → 0 < row.stride
some_wide bs word f row h =
    let wide : row.stride ≡ record_cells h.placed.file = ap (λ (r : FileRow). r.stride) h.is in
    elim (cases_lt 0 (record_cells h.placed.file)) [
      | inl lt ↦ omega (arith, wide)
      | inr none ↦
          let zero_wide : record_cells h.placed.file ≡ 0 = omega (arith, none) in
          let empty : h.placed.file.size * record_cells h.placed.file ≡ h.placed.file.size * 0 = ap (λ w. h.placed.file.size * w) zero_wide in
          absurd (omega (arith, empty, h.from, h.below))
    ]

-- what the search for the row needs to know
pub row_found : (l : Rows) (word b f : ℕ) (block : BlockRow) (row : FileRow) → HasWord l word
    → IsLastUpTo begins_block l.blocks word b → slice_get l.blocks b ≡ Some block → block.variables ≤ word - block.first
    → IsLastUpTo begins_file l.files word f → slice_get l.files f ≡ Some row → (row.first ≤ word) × (0 < row.stride)
row_found l word b f block row asked last there past later shown =
    let r = in_file asked.blocks l word b asked.layout asked.below (record { last = last; row = block; there = there; past = past }) in
    let h = has_word asked.blocks l word f row asked.layout r later shown in
    (omega (arith, h.from, ap begins_file h.is), some_wide asked.blocks word f row h)

-- the record of a word
record_below : (p : Placed) (n x word : ℕ) → p.first + n * record_cells p.file + x ≡ word → word < p.first + file_cells p.file → n < p.file.size
record_below p n x word is below =
    elim (cases_lt n p.file.size) [
      | inl lt ↦ lt
      | inr ge ↦
          let many : p.file.size * record_cells p.file ≤ n * record_cells p.file =
          mul-le p.file.size (record_cells p.file) n (record_cells p.file) ge (omega arith) in
          absurd (omega (arith, many, is, below))
    ]

cell_has : (bs : List Block) (l : Rows) (word f : ℕ) (row : FileRow) (c : Cell) → IsLayout bs l → Has bs word f row
    → IsIn row word c → IsCell bs c × (cell_number bs c ≡ word)
cell_has bs l word f row (Variable block index) laid h is = absurd is
cell_has bs l word f row (Field file number field) laid h is =
    let p : Placed = h.placed in
    let same : file ≡ f = is.0 ∙ ap (λ (r : FileRow). r.number) h.is ∙ laid.numbered f p h.there in
    let there : slice_get (placed_files bs) file ≡ Some p = ap (slice_get (placed_files bs)) same ∙ h.there in
    let within : field < length p.file.fields = omega (arith, is.1, ap (λ (r : FileRow). r.fields) h.is) in
    let at : field_cell p number field ≡ word = ap (λ (r : FileRow). r.first + number * r.stride + field) (sym h.is) ∙ is.2 in
    let inside : number < p.file.size = record_below p number field word at h.below in
    (field_is_cell bs file number field p there inside within, cell_number-field bs file number field p there ∙ at)
cell_has bs l word f row (Mark file number) laid h is =
    let p : Placed = h.placed in
    let mark : IsMarkAt row word number = is.1 in
    let same : file ≡ f = is.0 ∙ ap (λ (r : FileRow). r.number) h.is ∙ laid.numbered f p h.there in
    let there : slice_get (placed_files bs) file ≡ Some p = ap (slice_get (placed_files bs)) same ∙ h.there in
    let after : length p.file.fields ≤ mark.place = omega (arith, mark.after, ap (λ (r : FileRow). r.fields) h.is) in
    let within : mark.place < record_cells p.file = omega (arith, mark.within, ap (λ (r : FileRow). r.stride) h.is) in
    let marked : p.file.forlopp ≡ true = true_from_ne_false p.file.forlopp
    (λ none. let no_mark : marks p.file.forlopp ≡ 0 = ap marks none in omega (arith, no_mark, after, within)) in
    let one : marks p.file.forlopp ≡ 1 = ap marks marked in
    let last : mark.place ≡ length p.file.fields = omega (arith, one, after, within) in
    let spot : p.first + number * record_cells p.file + mark.place ≡ word =
    ap (λ (r : FileRow). r.first + number * r.stride + mark.place) (sym h.is) ∙ mark.is in
    let at : mark_cell p number ≡ word = omega (arith, spot, last) in
    let inside : number < p.file.size = record_below p number mark.place word spot h.below in
    (mark_is_cell bs file number p there inside marked, cell_number-mark bs file number p there ∙ at)

pub file_cell_found : (bs : List Block) (l : Rows) (word b f : ℕ) (block : BlockRow) (row : FileRow) (c : Cell)
    → HasWord l word → IsLayout bs l → IsLastUpTo begins_block l.blocks word b → slice_get l.blocks b ≡ Some block
    → block.variables ≤ word - block.first → IsLastUpTo begins_file l.files word f → slice_get l.files f ≡ Some row
    → IsIn row word c → IsCell bs c × (cell_number bs c ≡ word)
file_cell_found bs l word b f block row c asked laid last there past later shown is =
    let below : word < cell_count bs = omega (arith, asked.below, asked.layout.cells, laid.cells) in
    let r = in_file bs l word b laid below (record { last = last; row = block; there = there; past = past }) in
    cell_has bs l word f row c laid (has_word bs l word f row laid r later shown) is

-- what is left of a word after its record's fields is the mark
pub mark_found : (row : FileRow) (word : ℕ) → row.first ≤ word → 0 < row.stride
    → row.fields ≤ (word - row.first) % row.stride → IsMarkAt row word ((word - row.first) / row.stride)
mark_found row word from some after = record {
  place = (word - row.first) % row.stride;
  after = after;
  within = mod_below (word - row.first) row.stride some;
  is = let split = div-add-mod' (word - row.first) row.stride in omega (arith, split, from);
}

-- the rows of the blocks are as few as the blocks
pub rows_short : (l : Rows) (word : ℕ) → HasWord l word → length l.blocks ≤ MOST_BLOCKS
rows_short l word asked = omega (arith, ap length asked.layout.blocks, length-block_rows 0 asked.blocks, asked.layout.short)
