use Rattle.std.proofs.Common.{◌+◌, drop, arith, ◌∙◌}
use Rattle.block_resolver.specs.Tables.{env_in}
use Rattle.resolved_block.specs.Blocks.{items_made}
use Rattle.block_resolver.proofs.Items.{items_cut}
use Rattle.block_resolver.proofs.body.make_items.Goals as goal

pub loop-item-preserved : goal.loop-item-preserved
loop-item-preserved c =
    let env = env_in c.args.names.now in
    let rest = items_made env (drop (c.loop-item.item-index + 1) c.args.items.now) in
    let cut = items_cut env c.args.items.now _ _ _ _ _ (omega arith) c.item-item.is c.loop-item.invariant in
    record {
      items = c.in_ok-add_item.ensures.items rest ∙ cut.items;
      next = c.in_ok-add_item.ensures.next rest ∙ cut.next;
    }
