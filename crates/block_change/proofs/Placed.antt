-- A file of a block stands among all files at its number.
use Rattle.std.proofs.Common.{◌≡◌, ℕ, zero, suc, ◌+◌, ◌-◌, ◌<◌, List, [], ◌∷◌, length, take, sum_by}
use Rattle.std.proofs.Common.{Some, slice_get, refl, sym, ap, ◌∙◌, subst, arith}
use Rattle.std.proofs.lemmas.Option.{none-some, same_Some, slice_get_within}
use Rattle.plex_num.proofs.Lists.{slice_get-append_left, slice_get-append_right}
use Rattle.exchange_model.specs.declared.block.Block.{Block}
use Rattle.exchange_model.specs.declared.block.File.{File}
use Rattle.exchange_model.specs.declared.exchange.Exchange.{Exchange}
use Rattle.exchange_model.specs.Cells.{Placed, block_cells, file_cells, placed_files, placed_from}
use Rattle.exchange_model.specs.Cells.{placed_in}
use Rattle.exchange_model.specs.Kept.{IsExchange}
use Rattle.exchange_model.proofs.Facts.{file_number}
use Rattle.exchange_model.proofs.Places.{slice_get-placed_in}

-- a file of these is that of the block, with this number
pub record IsPlaced (files : List Placed) (number b : ℕ) (f : File) : Type 0 where
  pub placed : Placed
  pub there : slice_get files number ≡ Some placed
  pub file : placed.file ≡ f
  pub block : placed.block ≡ b

placed_at : (start cell : ℕ) (blocks : List Block) (b j : ℕ) (k : Block) (f : File) → slice_get blocks b ≡ Some k
    → slice_get k.files j ≡ Some f → (n : ℕ) × IsPlaced (placed_from start cell blocks) n (start + b) f
placed_at start cell [] b j k f at there = absurd (none-some k at)
placed_at start cell (l ∷ rest) zero j k f at there =
    let same : l ≡ k = same_Some l k at in
    let own : slice_get l.files j ≡ Some f = ap (λ (z : Block). slice_get z.files j) same ∙ there in
    let p : Placed = record { block = start; file = f; first = cell + length l.variables + sum_by file_cells (take j l.files) } in
    let here = slice_get-placed_in start (cell + length l.variables) l.files j f own in
    let short : j < length (placed_in start (cell + length l.variables) l.files) =
    slice_get_within (placed_in start (cell + length l.variables) l.files) j p here in (
      j,
      record {
        placed = p;
        there = slice_get-append_left (placed_in start (cell + length l.variables) l.files)
            (placed_from (start + 1) (cell + block_cells l) rest) j short ∙ here;
        file = refl;
        block = omega arith;
      },
    )
placed_at start cell (l ∷ rest) (suc b) j k f at there =
    let before = placed_in start (cell + length l.variables) l.files in
    let behind = placed_from (start + 1) (cell + block_cells l) rest in
    let r = placed_at (start + 1) (cell + block_cells l) rest b j k f at there in
    let n : ℕ = length before + r.0 in
    let left : n - length before ≡ r.0 = omega arith in (
      n,
      record {
        placed = r.1.placed;
        there = slice_get-append_right before behind n (omega arith) ∙ ap (slice_get behind) left ∙ r.1.there;
        file = r.1.file;
        block = let is = r.1.block in omega (arith, is);
      },
    )

pub placed_file : (x : Exchange) → IsExchange x → (b j : ℕ) (k : Block) (f : File) → slice_get x.blocks b ≡ Some k
    → slice_get k.files j ≡ Some f → IsPlaced (placed_files x.blocks) f.number b f
unfolding placed_files
placed_file x kept b j k f at there =
    let found = placed_at 0 0 x.blocks b j k f at there in
    let p = found.1 in
    let number : f.number ≡ found.0 = ap (λ (g : File). g.number) (sym p.file) ∙ file_number x kept found.0 p.placed p.there in
    let block = p.block in
    subst (λ n. IsPlaced (placed_files x.blocks) n b f) (sym number)
    (record { placed = p.placed; there = p.there; file = p.file; block = omega (arith, block) })
