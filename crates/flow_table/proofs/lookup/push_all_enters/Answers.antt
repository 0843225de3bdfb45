use Rattle.std.proofs.Common.{◌∙◌, ap, length}
use Rattle.exchange_model.specs.Parts.{Parts}
use Rattle.flow_table.proofs.Entering.{enters_more, enters_end}
use Rattle.flow_table.proofs.lookup.push_all_enters.Goals as goal

pub loop-number-preserved : goal.loop-number-preserved
loop-number-preserved c = enters_more c.args.exchange.now c.args.signal c.len-count.result c.loop-number.number
    c.args.points.now c.loop-number.points c.push_received.new.points c.loop-number-test.true
    c.in_ok-push_received.ensures c.loop-number.invariant

pub returns : goal.returns
returns c = enters_end c.args.exchange.now c.args.signal c.len-count.result c.loop-number.number 0 c.args.points.now
    c.loop-number.points (c.len-count.ensures ∙ ap (λ (v : Parts). length v.blocks) c.exchange.view_is)
    c.loop-number-test.false c.loop-number.invariant
