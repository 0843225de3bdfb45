use Rattle.entry_faults.proofs.Marking.{fresh_more}
use Rattle.entry_faults.proofs.mark.new_marks.Goals as goal

pub loop-point-preserved : goal.loop-point-preserved
loop-point-preserved c = fresh_more c.args.reached.now c.loop-point._point-index c.loop-point.marks c.push.new.self
    c.loop-point-test.true c.in_ok-push.ensures c.loop-point.invariant
