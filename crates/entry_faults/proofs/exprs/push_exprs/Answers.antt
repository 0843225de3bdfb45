use Rattle.std.proofs.Common.{[], ◌∷◌, ap, sym}
use Rattle.exchange_model.specs.Inside.{cond_exprs}
use Rattle.flow_table.proofs.Handing.{on_ok_as}
use Rattle.entry_faults.specs.Exprs.{AddsExprs, exprs_seen}
use Rattle.entry_faults.proofs.Listing.{adds_as, adds_both, adds_none}
use Rattle.entry_faults.proofs.exprs.push_exprs.Goals as goal

pub returns-in-One : goal.returns-in-One
returns-in-One c =
    on_ok_as c.push_expr.result (AddsExprs c.args.exprs.now c.push_expr.new.exprs (c.in-One.expr.now ∷ []))
    (AddsExprs c.args.exprs.now c.push_expr.new.exprs (exprs_seen c.args.found.now))
    (λ h. adds_as c.args.exprs.now c.push_expr.new.exprs (c.in-One.expr.now ∷ []) (exprs_seen c.args.found.now) (ap exprs_seen (sym c.in-One.is)) h)
    c.push_expr.ensures

pub returns-in-None : goal.returns-in-None
returns-in-None c = adds_as c.args.exprs.now c.args.exprs.now [] (exprs_seen c.args.found.now) (ap exprs_seen (sym c.in-None.is)) (adds_none c.args.exprs.now)

pub returns-in-Condition : goal.returns-in-Condition
returns-in-Condition c =
    on_ok_as c.push_condition.result (AddsExprs c.args.exprs.now c.push_condition.new.exprs
    (cond_exprs c.in-Condition.cond.now)) (AddsExprs c.args.exprs.now c.push_condition.new.exprs
    (exprs_seen c.args.found.now))
    (λ h. adds_as c.args.exprs.now c.push_condition.new.exprs (cond_exprs c.in-Condition.cond.now)
    (exprs_seen c.args.found.now) (ap exprs_seen (sym c.in-Condition.is)) h)
    c.push_condition.ensures

pub returns-in-Values : goal.returns-in-Values
returns-in-Values c =
    on_ok_as c.push_values.result (AddsExprs c.args.exprs.now c.push_values.new.exprs c.in-Values.values.now)
    (AddsExprs c.args.exprs.now c.push_values.new.exprs (exprs_seen c.args.found.now))
    (λ h. adds_as c.args.exprs.now c.push_values.new.exprs c.in-Values.values.now (exprs_seen c.args.found.now) (ap exprs_seen (sym c.in-Values.is)) h)
    c.push_values.ensures

pub returns-in_ok-push_expr-in-Two-2 : goal.returns-in_ok-push_expr-in-Two-2
returns-in_ok-push_expr-in-Two-2 c =
    adds_as c.args.exprs.now c.push_expr-in-Two-2.new.exprs (c.in-Two.first.now ∷ c.in-Two.second.now ∷ [])
    (exprs_seen c.args.found.now) (ap exprs_seen (sym c.in-Two.is))
    (adds_both c.args.exprs.now c.push_expr-in-Two.new.exprs c.push_expr-in-Two-2.new.exprs (c.in-Two.first.now ∷ [])
    (c.in-Two.second.now ∷ []) c.in_ok-push_expr-in-Two.ensures c.in_ok-push_expr-in-Two-2.ensures)
