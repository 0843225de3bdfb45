use Rattle.conflict_rows.proofs.Joining.{both_first}
use Rattle.conflict_rows.proofs.clashes.push_any.Goals as goal

pub returns : goal.returns
returns c =
    both_first c.args.ones.now c.args.place c.args.other c.near_access-reads.result c.near_access-writes.result
    c.args.rows.now c.push_first.new.rows c.push_first-2.new.rows
    c.near_access-reads.ensures c.near_access-writes.ensures c.in_ok-push_first.ensures c.in_ok-push_first-2.ensures
