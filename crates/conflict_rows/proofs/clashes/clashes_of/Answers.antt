use Rattle.conflict_rows.proofs.Covering.{all_rows}
use Rattle.conflict_rows.proofs.clashes.clashes_of.Goals as goal

pub returns : goal.returns
returns c =
    all_rows c.args.first.now c.args.later.now c.as_slice-ones.result.now c.as_slice-others.result.now
    c.as_slice.result.now c.new-rows.result c.push_of_first.new.rows c.push_of_later.new.rows
    c.push_of_levels.new.rows c.in_order.result
    c.as_slice-ones.ensures c.as_slice-others.ensures c.as_slice.ensures c.new-rows.ensures
    c.in_ok-push_of_first.ensures c.in_ok-push_of_later.ensures c.in_ok-push_of_levels.ensures
    c.in_order.ensures.same c.in_order.ensures.rising
