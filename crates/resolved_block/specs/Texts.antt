-- The exchange that a text means. Statements and files count on from block to block; entries,
-- points and cells are those that every exchange has of its blocks.
use Rattle.std.specs.Prelude.{ℕ, List, [], ◌∷◌, map}
use Rattle.exchange_model.specs.declared.block.Block.{Block}
use Rattle.exchange_model.specs.declared.signal.SignalKind.{SignalKind}
use Rattle.exchange_model.specs.Cells.{cell_count}
use Rattle.exchange_model.specs.Inside.{total, when_count}
use Rattle.exchange_model.specs.Kept.{entries_from, points_from}
use Rattle.exchange_model.specs.Parts.{Parts}
use Rattle.plex_ast.specs.declared.block.Block.{Block as TreeBlock}
use Rattle.plex_ast.specs.declared.tree.Tree.{Tree}
use Rattle.signal_types.specs.Signals.{signals_of}
use Rattle.resolved_block.specs.Blocks.{typed_of}
use Rattle.resolved_block.specs.declared.parts.First.{First}

-- the first block begins with statement 0 and file 0
abbrev pub none_before : First
none_before = record { point = 0; file = 0 }

-- some blocks of a text, the first of which begins with these numbers
unfoldable pub typed_from : List SignalKind → List TreeBlock → First → List TreeBlock → List Block
typed_from signals blocks first [] = []
typed_from signals blocks first (b ∷ rest) =
    (typed_of signals blocks first b).block ∷ typed_from signals blocks
    (typed_of signals blocks first b).next rest

-- the blocks that a text means
abbrev pub typed_blocks : Tree → List Block
typed_blocks t = typed_from (signals_of t) t.blocks none_before t.blocks

-- the exchange of these signals and blocks
unfoldable pub exchange_of : List SignalKind → List Block → Parts
exchange_of signals blocks = record {
  signals = signals;
  blocks = blocks;
  entries = entries_from signals 0 blocks;
  points = points_from 0 blocks;
  cells = cell_count blocks;
}

-- the exchange that a text means
abbrev pub exchange_of_tree : Tree → Parts
exchange_of_tree t = exchange_of (signals_of t) (typed_blocks t)

-- how many choices all CASEs of an exchange have
abbrev pub choices_in : Parts → ℕ
choices_in x = total (map (λ (k : Block). when_count k.body) x.blocks)
