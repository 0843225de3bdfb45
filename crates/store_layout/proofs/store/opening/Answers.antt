use Rattle.std.proofs.Common.{◌≡◌, List, [], rules}
use Rattle.std.proofs.lemmas.Grind.{common_steps}
use Rattle.exchange_model.specs.declared.block.Block.{Block}
use Rattle.exchange_model.specs.Opening.{block_opening}
use Rattle.store_layout.proofs.Opened.{filled_more}
use Rattle.store_layout.proofs.store.opening.Goals as goal

pub loop-block-preserved : goal.loop-block-preserved
loop-block-preserved c =
    let items : List Block = c.as_slice-block-items.result.now in
    let same : items ≡ c.args.exchange.now.blocks = search (rules, common_steps) in
    filled_more block_opening [] c.loop-block.store c.open_block.new.store c.args.exchange.now.blocks items
    c.loop-block.block-index c.block-item.result same c.loop-block-test.true c.block-item.is
    c.in_ok-open_block.ensures c.loop-block.invariant
