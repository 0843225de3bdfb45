use Rattle.std.proofs.Common.{◌∙◌, ap, length}
use Rattle.exchange_model.specs.Parts.{Parts}
use Rattle.flow_table.proofs.Pointing.{lists_begin, lists_more, lists_end}
use Rattle.answer_table.specs.Answers.{returned}
use Rattle.answer_table.proofs.answers.returns_of.Goals as goal

pub loop-at-init : goal.loop-at-init
loop-at-init c = lists_begin returned c.len-count.result c.args.places.now c.into_vec-returns.result.items (c.into_vec-returns.ensures ∙ c.in_ok-lists.ensures)

pub loop-at-preserved : goal.loop-at-preserved
loop-at-preserved c = lists_more returned c.len-count.result c.args.places.now c.loop-at.at-index c.at-item.result
    c.loop-at.returns.items c.push_return.new.returns.items c.loop-at-test.true c.at-item.is c.in_ok-push_return.ensures
    c.loop-at.invariant

pub returns : goal.returns
returns c = lists_end returned c.args.exchange.now c.len-count.result c.args.places.now c.loop-at.at-index
    c.loop-at.returns.items c.from_vec.result c.requires
    (c.len-count.ensures ∙ ap (λ (v : Parts). length v.signals) c.exchange.view_is) c.loop-at-test.false
    c.from_vec.ensures c.loop-at.invariant
