use Rattle.std.proofs.Common.{refl, ap, subst}
use Rattle.exchange_model.specs.Inside.{relation_exprs}
use Rattle.entry_faults.specs.Exprs.{AddsExprs}
use Rattle.entry_faults.proofs.Listing.{adds_begin, adds_as, adds_more, adds_end, condition_listed}
use Rattle.entry_faults.proofs.exprs.push_condition.Goals as goal

pub loop-relations-init : goal.loop-relations-init
loop-relations-init c = adds_begin condition_listed c.as_slice-relations-items.result.now c.args.exprs.now

pub loop-relations-preserved : goal.loop-relations-preserved
loop-relations-preserved c =
    adds_more condition_listed c.as_slice-relations-items.result.now c.loop-relations.relations-index
    c.relations-item.result c.args.exprs.now c.loop-relations.exprs c.push_relations.new.exprs
    (relation_exprs c.relations-item.result) c.loop-relations-test.true c.relations-item.is (λ rest. refl)
    (subst (λ rs. AddsExprs c.loop-relations.exprs c.push_relations.new.exprs (relation_exprs rs)) c.as_slice.ensures c.in_ok-push_relations.ensures)
    c.loop-relations.invariant

pub returns : goal.returns
returns c =
    adds_as c.args.exprs.now c.loop-relations.exprs (condition_listed c.as_slice-relations-items.result.now)
    (condition_listed c.args.cond.now.any) (ap condition_listed c.as_slice-relations-items.ensures)
    (adds_end condition_listed c.as_slice-relations-items.result.now c.loop-relations.relations-index c.args.exprs.now
    c.loop-relations.exprs refl c.loop-relations-test.false c.loop-relations.invariant)
