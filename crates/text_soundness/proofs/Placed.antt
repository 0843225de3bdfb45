-- Each block of the exchange is a typed block of the tree, and its files stand in the exchange.
use Rattle.std.proofs.Common.{◌≡◌, ℕ, zero, suc, ◌+◌, List, [], ◌∷◌, ◌++◌, length, Some, slice_get}
use Rattle.std.proofs.Common.{refl, sym, ◌∙◌, ap, arith, zero-add, add-zero}
use Rattle.std.proofs.lemmas.Option.{none-some, same_Some}
use Rattle.plex_num.proofs.Lists.{got_more, get_after}
use Rattle.plex_ast.specs.declared.block.Block.{Block as TreeBlock}
use Rattle.plex_ast.specs.declared.tree.Tree.{Tree}
use Rattle.exchange_model.specs.declared.signal.SignalKind.{SignalKind}
use Rattle.exchange_model.specs.declared.block.Block.{Block}
use Rattle.exchange_model.specs.declared.block.File.{File}
use Rattle.exchange_model.specs.Cells.{Placed, file_cells, block_cells, placed_in, placed_from}
use Rattle.exchange_model.specs.Cells.{placed_files}
use Rattle.exchange_model.specs.Kept.{scope_of}
use Rattle.exchange_model.proofs.Places.{length-placed_in}
use Rattle.text_soundness.specs.Blocks.{IsPlaced}
use Rattle.resolved_block.specs.Texts.{none_before, typed_from, typed_blocks, exchange_of}
use Rattle.resolved_block.specs.Texts.{exchange_of_tree}
use Rattle.signal_types.specs.Signals.{signals_of}
use Rattle.resolved_block.specs.declared.parts.First.{First}
use Rattle.resolved_block.specs.Blocks.{typed_of}
use Rattle.text_soundness.proofs.NumberedFiles.{next_file}

-- places in two lists, one after the other

-- a file of a block among those that are placed
record At (files : List Placed) (place block : ℕ) (f : File) : Type 0 where
  pub first : ℕ
  pub there : slice_get files place ≡ Some (record { block = block; file = f; first = first })

in_block : (block cell : ℕ) (files : List File) (i : ℕ) (f : File) → slice_get files i ≡ Some f → At (placed_in block cell files) i block f
in_block block cell [] i f h = absurd (none-some f h)
in_block block cell (g ∷ fs) zero f h = record {
  first = cell;
  there = ap (λ (x : File). Some (record { block = block; file = x; first = cell })) (same_Some g f h);
}
in_block block cell (g ∷ fs) (suc i) f h = let more = in_block block (cell + file_cells g) fs i f h in record { first = more.first; there = more.there }

-- the block of a place: its tree block, what it begins with, and where its files stand
record Found (signals : List SignalKind) (blocks : List TreeBlock) (start : First) (list : List TreeBlock)
    (files : List Placed) (b number : ℕ) (k : Block) : Type 0 where
  pub tree : TreeBlock
  pub first : First
  pub there : slice_get list b ≡ Some tree
  pub same : k ≡ (typed_of signals blocks first tree).block
  pub offset : ℕ
  pub from : first.file ≡ start.file + offset
  pub files_at : (i : ℕ) (f : File) → slice_get k.files i ≡ Some f → At files (offset + i) number f

found : (signals : List SignalKind) (blocks : List TreeBlock) (start : First) (list : List TreeBlock)
    (number cell b : ℕ) (k : Block) → slice_get (typed_from signals blocks start list) b ≡ Some k
    → Found signals blocks start list (placed_from number cell (typed_from signals blocks start list)) b (number + b) k
unfolding typed_from
found signals blocks start [] number cell b k h = absurd (none-some k h)
found signals blocks start (tb ∷ rest) number cell zero k h =
    let t = typed_of signals blocks start tb in
    let same : t.block ≡ k = same_Some t.block k h in
    let here = placed_in number (cell + length t.block.variables) t.block.files in
    let others = placed_from (number + 1) (cell + block_cells t.block) (typed_from signals blocks t.next rest) in
    record {
      tree = tb;
      first = start;
      there = refl;
      same = sym same;
      offset = 0;
      from = sym (add-zero start.file);
      files_at = λ i f at.
          let x = in_block number (cell + length t.block.variables) t.block.files i f (ap (λ (y : Block). slice_get y.files i) same ∙ at) in
          rw (zero-add i, add-zero number) (record { first = x.first; there = got_more here others i _ x.there });
    }
found signals blocks start (tb ∷ rest) number cell (suc b) k h =
    let t = typed_of signals blocks start tb in
    let here = placed_in number (cell + length t.block.variables) t.block.files in
    let others = placed_from (number + 1) (cell + block_cells t.block) (typed_from signals blocks t.next rest) in
    let more = found signals blocks t.next rest (number + 1) (cell + block_cells t.block) b k h in
    let long = length-placed_in number (cell + length t.block.variables) t.block.files in
    let next : number + 1 + b ≡ number + suc b = omega arith in
    record {
      tree = more.tree;
      first = more.first;
      there = more.there;
      same = more.same;
      offset = length here + more.offset;
      from = omega (arith, more.from, next_file signals blocks start tb, long);
      files_at = λ i f at.
          let x = more.files_at i f at in
          let place : length here + more.offset + i ≡ length here + (more.offset + i) = omega arith in
          record {
            first = x.first;
            there = ap (slice_get (here ++ others)) place
                ∙ get_after here others (more.offset + i) ∙ x.there
                ∙ ap (λ n. Some (record { block = n; file = f; first = x.first })) next;
          };
    }

-- the b-th block of an exchange: its tree block, the numbers that it begins with, and that its
-- files stand from there on
pub record IsOfTree (t : Tree) (b : ℕ) (k : Block) : Type 0 where
  pub tree : TreeBlock
  pub first : First
  pub there : slice_get t.blocks b ≡ Some tree
  pub same : k ≡ (typed_of (signals_of t) t.blocks first tree).block
  pub placed : IsPlaced (scope_of (exchange_of_tree t) b k) first.file

pub placed : (t : Tree) (b : ℕ) (k : Block) → slice_get (exchange_of_tree t).blocks b ≡ Some k → IsOfTree t b k
unfolding exchange_of placed_files
placed t b k h =
    let x = found (signals_of t) t.blocks none_before t.blocks 0 0 b k h in
    let from : x.first.file ≡ x.offset = x.from ∙ zero-add x.offset in
    record {
      tree = x.tree;
      first = x.first;
      there = x.there;
      same = x.same;
      placed = record {
        files = λ i f at.
            let y = x.files_at i f at in
            record {
              first = y.first;
              there = ap (λ n. slice_get (placed_files (typed_blocks t)) (n + i)) from ∙ y.there
                  ∙ ap (λ n. Some (record { block = n; file = f; first = y.first })) (zero-add b);
            };
      };
    }
