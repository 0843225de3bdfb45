use Rattle.std.proofs.Common.{length, refl}
use Rattle.conflict_rows.specs.Points.{LevelAt}
use Rattle.conflict_rows.proofs.Loops.{items_begin, items_more, items_end}
use Rattle.conflict_rows.proofs.given.push_levels.Goals as goal

pub loop-place-init : goal.loop-place-init
loop-place-init c = items_begin (LevelAt (length c.args.all.now) c.args.sent.now c.args.point) c.args.levels.now c.args.rows.now

pub loop-place-preserved : goal.loop-place-preserved
loop-place-preserved c =
    items_more (LevelAt (length c.args.all.now) c.args.sent.now c.args.point) c.args.levels.now c.loop-place.place
    c.level_at.result c.args.rows.now c.loop-place.rows c.push_level.new.rows c.level_at.ensures
    (c.in_ok-push_level.ensures (length c.args.all.now) c.loop-place.place refl) c.loop-place.invariant

pub returns : goal.returns
returns c =
    items_end (LevelAt (length c.args.all.now) c.args.sent.now c.args.point) c.args.levels.now c.loop-place.place
    c.args.rows.now c.loop-place.rows c.loop-place-test.false c.loop-place.invariant
