-- What every exchange keeps of one block, one variable and one file; and that the empty exchange
-- keeps all.
use Rattle.std.proofs.Common.{◌≡◌, ℕ, ◌<◌, ◌≤◌, List, [], length, Some, slice_get, get_or, refl}
use Rattle.std.proofs.Common.{sym, ap, ◌∙◌, arith, lit≤}
use Rattle.std.specs.List.{IsDistinct, range_with_len}
use Rattle.std.specs.Option.{option_map}
use Rattle.std.proofs.lemmas.List.FromFn.{length-range_with_len, get_or-range_with_len}
use Rattle.std.proofs.lemmas.Option.{none-some, same_Some, slice_get-map, slice_get-get_or}
use Rattle.std.proofs.lemmas.Option.{slice_get_within}
use Rattle.exchange_model.specs.declared.block.Block.{Block}
use Rattle.exchange_model.specs.declared.block.Variable.{Variable}
use Rattle.plex_limits.specs.declared.limits.TheConstants.{MOST_CELLS}
use Rattle.exchange_model.specs.Cells.{cell_count, Placed, placed_files}
use Rattle.exchange_model.specs.Parts.{Parts}
use Rattle.exchange_model.specs.Kept.{IsExchange, VariableFits, FieldFits, FileFits, points_from}
use Rattle.exchange_model.specs.Kept.{entries_from}
use Rattle.plex_num.proofs.Lists.{all_at}
use Rattle.exchange_model.proofs.Places.{stands}

pub cells_few : (x : Parts) → IsExchange x → cell_count x.blocks ≤ MOST_CELLS
cells_few x h = omega (arith, h.numbered.cells, h.limited.cells)

pub variable_kept : (x : Parts) → IsExchange x → (b v : ℕ) (k : Block) (w : Variable) → slice_get x.blocks b ≡ Some k
    → slice_get k.variables v ≡ Some w → VariableFits w
variable_kept x h b v k w there own = all_at VariableFits k.variables v w (h.blocks.each b k there).variables own

pub file_kept : (x : Parts) → IsExchange x → (n : ℕ) (p : Placed) → slice_get (placed_files x.blocks) n ≡ Some p → FileFits p.file
file_kept x h n p there =
    let s = stands x.blocks n p there in
    all_at FileFits s.owner.files s.place p.file (h.blocks.each p.block s.owner s.there).files s.own

pub field_kept : (x : Parts) → IsExchange x → (n f : ℕ) (p : Placed) (w : Variable)
    → slice_get (placed_files x.blocks) n ≡ Some p → slice_get p.file.fields f ≡ Some w → VariableFits w
field_kept x h n f p w there own = (all_at FieldFits p.file.fields f w (file_kept x h n p there).fields own).variable

slice_get-range_with_len : (n i : ℕ) → i < n → slice_get (range_with_len 0 n) i ≡ Some i
slice_get-range_with_len n i lt =
    let at = slice_get-get_or (range_with_len 0 n) i 0 (omega (arith, length-range_with_len 0 n)) in
    let same : get_or (range_with_len 0 n) i 0 ≡ i = omega (arith, get_or-range_with_len 0 n i 0 lt) in
    at ∙ ap Some same

-- a file's number is its place among the files of all blocks
pub file_number : (x : Parts) → IsExchange x → (n : ℕ) (p : Placed) → slice_get (placed_files x.blocks) n ≡ Some p → p.file.number ≡ n
file_number x h n p there =
    let files : List Placed = placed_files x.blocks in
    let number : Placed → ℕ = λ p. p.file.number in
    let within = slice_get_within files n p there in
    same_Some p.file.number n (sym (slice_get-map number files n ∙ ap (option_map number) there)
    ∙ ap (λ (ns : List ℕ). slice_get ns n) h.numbered.files ∙ slice_get-range_with_len (length files) n within)

-- the exchange of no signal and no block
pub empty_kept : IsExchange (record { signals = []; blocks = []; entries = []; points = []; cells = 0 })
unfolding placed_files points_from entries_from IsDistinct
empty_kept = record {
  signals = record {
    few = lit≤ tt;
    names = tt;
    values = tt;
    answers = λ i s there. absurd (none-some s there);
  };
  blocks = record {
    few = lit≤ tt;
    names = tt;
    each = λ b k there. absurd (none-some k there);
  };
  numbered = record {
    statements = refl;
    points = refl;
    files = refl;
    entries = refl;
    cells = refl;
  };
  limited = record {
    entries = lit≤ tt;
    statements = lit≤ tt;
    cells = lit≤ tt;
    whens = lit≤ tt;
  };
}
