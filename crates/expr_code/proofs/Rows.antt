-- The rows of a layout, as the blocks and files of its exchange tell them.
use Rattle.std.proofs.Common.{◌≡◌, ℕ, zero, suc, ◌+◌, List, [], ◌∷◌, length, take, Option, Some}
use Rattle.std.proofs.Common.{None, slice_get, refl, sym, ap, ◌∙◌, arith}
use Rattle.std.specs.Option.{option_map}
use Rattle.std.proofs.lemmas.List.Sums.{sum_by-cons}
use Rattle.std.proofs.lemmas.Option.{none-some, same_Some, slice_get-map}
use Rattle.exchange_model.specs.declared.block.Block.{Block}
use Rattle.exchange_model.specs.Cells.{Placed, block_cells, cell_count, first_cell}
use Rattle.store_layout.specs.declared.row.BlockRow.{BlockRow}
use Rattle.store_layout.specs.declared.row.FileRow.{FileRow}
use Rattle.store_layout.specs.Laid.{IsLayout, block_rows, file_row}
use Rattle.store_layout.specs.Rows.{Rows}
use Rattle.expr_code.specs.Code.{Site}
use Rattle.expr_code.specs.Sites.{IsSiteOf}

first_in : (word : ℕ) (bs : List Block) (b : ℕ) (k : Block) (row : BlockRow) → slice_get bs b ≡ Some k
    → slice_get (block_rows word bs) b ≡ Some row → row.first ≡ word + first_cell bs b
first_in word [] b k row h there = absurd (none-some k h)
first_in word (c ∷ cs) zero k row h there =
    let same = same_Some (record { first = word; variables = length c.variables }) row there in
    omega (arith, ap (λ (r : BlockRow). r.first) same)
first_in word (c ∷ cs) (suc b) k row h there =
    let more : cell_count (c ∷ take b cs) ≡ block_cells c + cell_count (take b cs) = sum_by-cons block_cells c (take b cs) in
    omega (arith, more, first_in (word + block_cells c) cs b k row h there)

-- a block's row begins at the block's first cell
pub first_of : (bs : List Block) (l : Rows) (b : ℕ) (k : Block) (row : BlockRow) → IsLayout bs l
    → slice_get bs b ≡ Some k → slice_get l.blocks b ≡ Some row → row.first ≡ first_cell bs b
first_of bs l b k row laid h there = omega (arith, first_in 0 bs b k row h (ap (λ (rs : List BlockRow). slice_get rs b) (sym laid.blocks) ∙ there))

-- a file of the site, from its row
pub record IsOfRow (row : FileRow) (o : Option Placed) : Type 0 where
  pub placed : Placed
  pub there : o ≡ Some placed
  pub is : file_row placed ≡ row

of_row : (o : Option Placed) (row : FileRow) → option_map file_row o ≡ Some row → IsOfRow row o
of_row None row e = absurd (none-some row e)
of_row (Some p) row e = record { placed = p; there = refl; is = same_Some (file_row p) row e }

pub site_file : (l : Rows) (b : ℕ) (site : Site) (f : ℕ) (row : FileRow) → IsSiteOf l b site
    → slice_get l.files f ≡ Some row → IsOfRow row (slice_get site.files f)
site_file l b site f row h there = of_row (slice_get site.files f) row
    (sym (slice_get-map file_row site.files f) ∙ ap (λ (rs : List FileRow). slice_get rs f) h.files ∙ there)

none_row : (o : Option Placed) → option_map file_row o ≡ None → o ≡ None
none_row None e = refl
none_row (Some p) e = absurd (none-some (file_row p) (sym e))

pub site_no_file : (l : Rows) (b : ℕ) (site : Site) (f : ℕ) → IsSiteOf l b site → slice_get l.files f ≡ None → slice_get site.files f ≡ None
site_no_file l b site f h there = none_row (slice_get site.files f)
    (sym (slice_get-map file_row site.files f) ∙ ap (λ (rs : List FileRow). slice_get rs f) h.files ∙ there)
