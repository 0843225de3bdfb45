-- The files of an exchange, and where their cells end.
use Rattle.std.proofs.Common.{◌≡◌, ℕ, ◌+◌, ◌*◌, ◌<◌, ◌≤◌, Some, None, slice_get, sym, arith}
use Rattle.std.proofs.Math.Nat.{mul-le-mul_right}
use Rattle.plex_limits.specs.declared.limits.TheConstants.{MOST_CELLS}
use Rattle.exchange_model.specs.Cells.{Placed, placed_files, file_cells, cell_count}
use Rattle.exchange_model.specs.Kept.{IsExchange}
use Rattle.exchange_model.specs.Parts.{Parts}
use Rattle.exchange_model.proofs.Places.{file_below}
use Rattle.source_meaning.specs.Config.{files_of}

pub place_within : (x : Parts) (n : ℕ) (p : Placed) → IsExchange x → slice_get (placed_files x.blocks) n ≡ Some p → p.first + file_cells p.file ≤ MOST_CELLS
place_within x n p kept is =
    let below : p.first + file_cells p.file ≤ cell_count x.blocks = file_below x.blocks n p is in
    omega (arith, kept.numbered.cells, kept.limited.cells)

pub place_found : (x : Parts) (n : ℕ) (p : Placed) → slice_get (placed_files x.blocks) n ≡ Some p → Some p ≡ slice_get (files_of x) n
unfolding files_of
place_found x n p is = sym is

pub no_place : (x : Parts) (n : ℕ) → slice_get (placed_files x.blocks) n ≡ None → None ≡ slice_get (files_of x) n
unfolding files_of
no_place x n is = sym is

-- a record ends before the last cell
pub record_ends : (first number size cells most : ℕ) → number < size → first + size * cells ≤ most → first + number * cells + cells ≤ most
record_ends first number size cells most lt below =
    let le : (number + 1) * cells ≤ size * cells = mul-le-mul_right cells (omega arith) in
    let more : (number + 1) * cells ≡ number * cells + cells = omega arith in
    omega (arith, le, more)
