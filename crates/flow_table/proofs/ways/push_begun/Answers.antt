use Rattle.std.proofs.Common.{◌++◌}
use Rattle.flow_table.specs.Ways.{begun_points}
use Rattle.flow_table.proofs.Wayfaring.{choices_more}
use Rattle.flow_table.proofs.ways.push_begun.Goals as goal

pub loop-when-preserved : goal.loop-when-preserved
loop-when-preserved c =
    choices_more c.args.whens.now c.first_of.result c.loop-when.when-index c.when-item.result c.as_slice.result.now
    c.loop-when.points c.push_point.new.points (c.args.points.now ++ begun_points c.args.whens.now)
    c.loop-when-test.true c.when-item.is c.as_slice.ensures c.first_of.ensures c.in_ok-push_point.ensures
    c.loop-when.invariant
