use Rattle.std.proofs.Common.{refl, [], ◌∷◌}
use Rattle.entry_faults.proofs.Listing.{adds_begin, adds_more, adds_end, values_listed}
use Rattle.entry_faults.proofs.exprs.push_values.Goals as goal

pub loop-value-init : goal.loop-value-init
loop-value-init c = adds_begin values_listed c.args.values.now c.args.exprs.now

pub loop-value-preserved : goal.loop-value-preserved
loop-value-preserved c = adds_more values_listed c.args.values.now c.loop-value.value-index c.value-item.result
    c.args.exprs.now c.loop-value.exprs c.push_expr.new.exprs (c.value-item.result ∷ []) c.loop-value-test.true
    c.value-item.is (λ rest. refl) c.in_ok-push_expr.ensures c.loop-value.invariant

pub returns : goal.returns
returns c = adds_end values_listed c.args.values.now c.loop-value.value-index c.args.exprs.now c.loop-value.exprs refl
    c.loop-value-test.false c.loop-value.invariant
