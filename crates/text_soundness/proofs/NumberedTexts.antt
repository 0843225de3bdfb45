-- The exchange of a tree is numbered in the order of the text.
use Rattle.std.proofs.Common.{refl, ◌∙◌, ap}
use Rattle.std.specs.List.{range_with_len}
use Rattle.std.proofs.lemmas.List.{length-map}
use Rattle.exchange_model.specs.Cells.{placed_files}
use Rattle.exchange_model.specs.Kept.{Numbered}
use Rattle.plex_ast.specs.declared.tree.Tree.{Tree}
use Rattle.signal_types.specs.Signals.{signals_of}
use Rattle.resolved_block.specs.Texts.{none_before, typed_blocks, exchange_of, exchange_of_tree}
use Rattle.text_soundness.proofs.NumberedBlocks.{blocks_follow}
use Rattle.text_soundness.proofs.NumberedFiles.{all_count}

pub numbered : (t : Tree) → Numbered (exchange_of_tree t)
unfolding exchange_of placed_files
numbered t =
    let signals = signals_of t in
    let blocks = t.blocks in
    let files = placed_files (typed_blocks t) in
    record {
      statements = (blocks_follow signals blocks none_before t.blocks).1.points;
      points = refl;
      files = all_count signals blocks none_before t.blocks 0 0 ∙ ap (range_with_len 0) (length-map files _);
      entries = refl;
      cells = refl;
    }
