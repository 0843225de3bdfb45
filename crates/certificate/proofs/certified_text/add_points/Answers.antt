use Rattle.certificate.proofs.Pointing.{points_begin, points_end, points_more}
use Rattle.certificate.proofs.certified_text.add_points.Goals as goal

pub loop-point-init : goal.loop-point-init
loop-point-init c = points_begin c.args.known.now c.args.points.now c.args.text.now

pub loop-point-preserved : goal.loop-point-preserved
loop-point-preserved c = points_more c.args.known.now c.args.points.now c.loop-point.point-index _ c.args.text.now
    c.loop-point.text c.add_point.new.text c.requires c.loop-point-test.true c.in_ok-add_point.ensures
    c.loop-point.invariant

pub returns : goal.returns
returns c = points_end c.args.known.now c.args.points.now c.loop-point.point-index c.args.text.now c.loop-point.text
    c.requires c.loop-point-test.false c.loop-point.invariant
