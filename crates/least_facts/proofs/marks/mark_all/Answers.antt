use Rattle.std.proofs.Common.{map}
use Rattle.least_facts.specs.Marks.{point_in}
use Rattle.least_facts.proofs.Marking.{marks_begin, marks_more, marks_end}
use Rattle.least_facts.proofs.marks.mark_all.Goals as goal

pub loop-point-init : goal.loop-point-init
loop-point-init c = marks_begin c.args.points.now (map point_in c.args.marks.now.keys)

pub loop-point-preserved : goal.loop-point-preserved
loop-point-preserved c = marks_more c.args.points.now c.loop-point.point-index _ (map point_in c.args.marks.now.keys)
    (map point_in c.loop-point.marks.keys) (map point_in c.mark.new.marks.keys) c.loop-point-test.true
    c.in_ok-mark.ensures c.loop-point.invariant

pub returns : goal.returns
returns c = marks_end c.args.points.now c.loop-point.point-index (map point_in c.args.marks.now.keys)
    (map point_in c.loop-point.marks.keys) c.loop-point-test.false c.loop-point.invariant
