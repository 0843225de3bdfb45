use Rattle.conflict_rows.specs.Near.{IsOfLevel}
use Rattle.conflict_rows.proofs.Loops.{items_begin, items_more, items_end}
use Rattle.conflict_rows.proofs.clashes.push_of_levels.Goals as goal

pub loop-place-init : goal.loop-place-init
loop-place-init c = items_begin (IsOfLevel c.args.ones.now c.args.later) c.args.levels.now c.args.rows.now

pub loop-place-preserved : goal.loop-place-preserved
loop-place-preserved c =
    items_more (IsOfLevel c.args.ones.now c.args.later) c.args.levels.now c.loop-place.place c.level_at.result
    c.args.rows.now c.loop-place.rows c.push_level.new.rows c.level_at.ensures
    c.in_ok-push_level.ensures c.loop-place.invariant

pub returns : goal.returns
returns c =
    items_end (IsOfLevel c.args.ones.now c.args.later) c.args.levels.now c.loop-place.place c.args.rows.now
    c.loop-place.rows c.loop-place-test.false c.loop-place.invariant
