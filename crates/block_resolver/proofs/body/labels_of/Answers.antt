use Rattle.std.proofs.Common.{◌+◌, drop, arith, ◌∙◌}
use Rattle.resolved_block.specs.Blocks.{labels_from}
use Rattle.block_resolver.proofs.Items.{places_cut}
use Rattle.block_resolver.proofs.body.labels_of.Goals as goal

pub loop-item-preserved : goal.loop-item-preserved
loop-item-preserved c = record {
  same = c.in_ok-add_label.ensures (labels_from (drop (c.loop-item.item-index + 1) c.args.items.now))
      ∙ places_cut c.args.items.now _ _ _ _ (omega arith) c.item-item.is c.loop-item.invariant;
}
