use Rattle.std.proofs.Common.{refl, [], ◌∷◌}
use Rattle.exchange_model.specs.Inside.{relation_exprs}
use Rattle.entry_faults.proofs.Listing.{adds_begin, adds_both, adds_more, adds_end}
use Rattle.entry_faults.proofs.exprs.push_relations.Goals as goal

pub loop-relation-init : goal.loop-relation-init
loop-relation-init c = adds_begin relation_exprs c.args.relations.now c.args.exprs.now

pub loop-relation-preserved : goal.loop-relation-preserved
loop-relation-preserved c =
    let both = adds_both c.loop-relation.exprs c.push_expr.new.exprs c.push_expr-in-loop-relation.new.exprs
    (c.relation-item.result.left ∷ []) (c.relation-item.result.right ∷ []) c.in_ok-push_expr.ensures
    c.in_ok-push_expr-2.ensures in
    adds_more relation_exprs c.args.relations.now c.loop-relation.relation-index c.relation-item.result c.args.exprs.now
    c.loop-relation.exprs c.push_expr-in-loop-relation.new.exprs
    (c.relation-item.result.left ∷ c.relation-item.result.right ∷ []) c.loop-relation-test.true c.relation-item.is
    (λ rest. refl) both c.loop-relation.invariant

pub returns : goal.returns
returns c = adds_end relation_exprs c.args.relations.now c.loop-relation.relation-index c.args.exprs.now
    c.loop-relation.exprs refl c.loop-relation-test.false c.loop-relation.invariant
