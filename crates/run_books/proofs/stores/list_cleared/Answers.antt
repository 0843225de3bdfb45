use Rattle.std.proofs.Common.{◌≡◌, List, rules}
use Rattle.std.proofs.lemmas.Grind.{common_steps}
use Rattle.exchange_model.specs.declared.block.Block.{Block}
use Rattle.run_books.proofs.Listed.{blocked_end, blocked_more}
use Rattle.run_books.proofs.stores.list_cleared.Goals as goal

pub loop-block-preserved : goal.loop-block-preserved
loop-block-preserved c =
    let items : List Block = c.as_slice-block-items.result.now in
    let same : items ≡ c.args.exchange.now.blocks = search (rules, common_steps) in
    blocked_more c.args.stores.now c.loop-block.stores c.list_clear.new.stores c.loop-block.word c.from-word.result
    c.args.exchange.now.blocks items c.loop-block.block-index c.block-item.result c.as_slice.result.now
    same c.loop-block-test.true c.block-item.is c.as_slice.ensures (search (rules)) c.in_ok-list_clear.ensures c.loop-block.invariant

pub returns : goal.returns
returns c =
    let items : List Block = c.as_slice-block-items.result.now in
    let same : items ≡ c.args.exchange.now.blocks = search (rules, common_steps) in
    blocked_end c.args.stores.now c.loop-block.stores c.loop-block.word c.args.exchange.now.blocks items
    c.loop-block.block-index same c.loop-block-test.false c.loop-block.invariant
