-- The files of an exchange, by number.
use Rattle.std.proofs.Common.{◌≡◌, ℕ, ◌+◌, ◌*◌, ◌≤◌, List, length, Option, Some, None, slice_get}
use Rattle.std.proofs.Common.{refl, sym, ap, ◌∙◌, arith}
use Rattle.std.specs.Option.{MatchOption}
use Rattle.std.proofs.lemmas.Nat.{mul-le}
use Rattle.std.proofs.lemmas.Option.{slice_get_past}
use Rattle.exchange_model.specs.declared.signal.SignalKind.{SignalKind}
use Rattle.exchange_model.specs.declared.block.Block.{Block}
use Rattle.exchange_model.specs.declared.block.FilePlace.{FilePlace}
use Rattle.exchange_model.specs.Index.{FindsFile}
use Rattle.exchange_model.specs.Cells.{Placed, first_cell, file_cells, placed_files, record_cells}
use Rattle.exchange_model.proofs.Facts.{cells_few, file_kept}
use Rattle.exchange_model.proofs.Places.{file_below}
use Rattle.store_layout.specs.declared.row.BlockRow.{BlockRow}
use Rattle.store_layout.proofs.Looking.{slice_get-block_rows}
use Rattle.source_meaning.specs.Config.{base_of, files_of}
use Rattle.expr_code.specs.Sites.{IsSiteOf}
use Rattle.code_gen.specs.declared.setting.Setting.{Setting}
use Rattle.code_gen.specs.Settings.{places_in, placed_of, IsSetting, IsFileIn}

pub signal_past : (signals : List SignalKind) (i : ℕ) → length signals ≤ i → slice_get signals i ≡ None
signal_past signals i past = slice_get_past signals i past

module _ (s : Setting) (h : IsSetting s) where
  abbrev placed : List Placed
  placed = placed_files s.exchange.now.blocks

  pub site_files : (places_in s).site.files ≡ placed
  unfolding places_in files_of
  site_files = refl

  -- what the exchange finds of a file
  pub file_in : (n : ℕ) (found : Option FilePlace) → FindsFile s.exchange.now.blocks n found
      → MatchOption found (slice_get (places_in s).site.files n ≡ None) (λ p. IsFileIn s n (placed_of p))
  file_in n None e = ap (λ ps. slice_get ps n) site_files ∙ e
  file_in n (Some f) e =
      let p = placed_of f in
      let some = (file_kept s.exchange.now h.kept n p e).some in
      let below = file_below s.exchange.now.blocks n p e in
      let few = cells_few s.exchange.now h.kept in
      let least : 1 * record_cells p.file ≤ file_cells p.file = mul-le 1 (record_cells p.file) p.file.size (record_cells p.file) some (omega arith) in
      record { there = ap (λ ps. slice_get ps n) site_files ∙ e; cells = omega (arith, below, few, least) }

  -- the site of the block is that of the layout
  pub site_in : (k : Block) → slice_get s.exchange.now.blocks s.block ≡ Some k → IsSiteOf s.layout.now s.block (places_in s).site
  unfolding places_in base_of files_of
  site_in k there = record {
    row = record { first = 0 + first_cell s.exchange.now.blocks s.block; variables = length k.variables };
    there = ap (λ (rs : List BlockRow). slice_get rs s.block) h.layout.blocks ∙ slice_get-block_rows 0 s.exchange.now.blocks s.block k there;
    first = omega arith;
    files = sym h.layout.files;
  }
