use Rattle.std.proofs.Common.{◌∙◌, ap, length}
use Rattle.exchange_model.specs.Parts.{Parts}
use Rattle.flow_table.specs.PointLists.{retrieved_by}
use Rattle.flow_table.proofs.Pointing.{lists_begin, lists_more, lists_end, retrieves_are}
use Rattle.flow_table.proofs.table.all_retrieves.Goals as goal

pub loop-at-init : goal.loop-at-init
loop-at-init c = lists_begin retrieved_by c.len-count.result c.args.places.now c.into_vec-retrieves.result.items
    (c.into_vec-retrieves.ensures ∙ c.in_ok-lists.ensures)

pub loop-at-preserved : goal.loop-at-preserved
loop-at-preserved c = lists_more retrieved_by c.len-count.result c.args.places.now c.loop-at.at-index c.at-item.result
    c.loop-at.retrieves.items c.push_retrieve.new.retrieves.items c.loop-at-test.true c.at-item.is
    c.in_ok-push_retrieve.ensures c.loop-at.invariant

pub returns : goal.returns
returns c = retrieves_are c.args.exchange.now c.from_vec.result
    (lists_end retrieved_by c.args.exchange.now c.len-count.result c.args.places.now c.loop-at.at-index
    c.loop-at.retrieves.items c.from_vec.result c.requires
    (c.len-count.ensures ∙ ap (λ (v : Parts). length v.signals) c.exchange.view_is) c.loop-at-test.false
    c.from_vec.ensures c.loop-at.invariant)
