use Rattle.conflict_rows.proofs.Joining.{both_later}
use Rattle.conflict_rows.proofs.clashes.push_both.Goals as goal

pub returns : goal.returns
returns c =
    both_later c.args.others.now c.args.selector c.args.place c.args.one c.near_access-reads.result
    c.near_access-writes.result c.args.rows.now c.push_later.new.rows c.push_later-2.new.rows
    c.near_access-reads.ensures c.near_access-writes.ensures c.in_ok-push_later.ensures c.in_ok-push_later-2.ensures
