-- The width of a field of a file.
use Rattle.std.proofs.Common.{◌≡◌, ℕ, None, Some, sym, ap, ◌∙◌}
use Rattle.std.specs.Prelude.{slice_get}
use Rattle.exchange_model.specs.declared.block.File.{File}
use Rattle.exchange_model.specs.declared.exchange.Exchange.{Exchange}
use Rattle.exchange_model.specs.Cells.{placed_files}
use Rattle.source_meaning.specs.Config.{files_of}
use Rattle.entry_additions.specs.Sums.{width_at, width_in}

pub no_file : (x : Exchange) (file field : ℕ) → slice_get (placed_files x.blocks) file ≡ None → 0 ≡ width_in (slice_get (files_of x) file) field
unfolding files_of
no_file x file field none = ap (λ o. width_in o field) (sym none)

pub file_there : (x : Exchange) (file field b first width : ℕ) (f : File)
    → slice_get (placed_files x.blocks) file ≡ Some (record { block = b; file = f; first = first })
    → width ≡ width_at f field → width ≡ width_in (slice_get (files_of x) file) field
unfolding files_of
file_there x file field b first width f there is = is ∙ ap (λ o. width_in o field) (sym there)
