use Rattle.conflict_rows.specs.Points.{AccessAt}
use Rattle.conflict_rows.proofs.Loops.{items_begin, items_more, items_end}
use Rattle.conflict_rows.proofs.given.push_accesses.Goals as goal

pub loop-place-init : goal.loop-place-init
loop-place-init c = items_begin (AccessAt c.args.all.now c.args.point) c.args.accesses.now c.args.rows.now

pub loop-place-preserved : goal.loop-place-preserved
loop-place-preserved c =
    items_more (AccessAt c.args.all.now c.args.point) c.args.accesses.now c.loop-place.place c.at.result c.args.rows.now
    c.loop-place.rows c.push_access.new.rows c.at.ensures
    (c.in_ok-push_access.ensures c.loop-place.place) c.loop-place.invariant

pub returns : goal.returns
returns c =
    items_end (AccessAt c.args.all.now c.args.point) c.args.accesses.now c.loop-place.place c.args.rows.now
    c.loop-place.rows c.loop-place-test.false c.loop-place.invariant
