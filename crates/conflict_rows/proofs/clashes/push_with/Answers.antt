use Rattle.std.proofs.Common.{sym, ◌∙◌}
use Rattle.conflict_rows.proofs.Joining.{with_any, with_own}
use Rattle.conflict_rows.proofs.clashes.push_with.Goals as goal

pub returns-then-not-asks : goal.returns-then-not-asks
returns-then-not-asks c =
    with_any c.args.others.now c.args.place c.args.one c.args.rows.now c.push_both.new.rows
    (sym c.asks.ensures ∙ c.if-not-asks.true) c.in_ok-push_both.ensures

pub returns : goal.returns
returns c =
    with_own c.args.others.now c.args.place c.args.one c.selector_of.result c.args.rows.now c.push_both.new.rows
    c.push_both-2.new.rows c.selector_of.ensures c.in_ok-push_both.ensures c.in_ok-push_both-2.ensures
