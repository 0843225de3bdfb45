use Rattle.entry_faults.proofs.Passing.{passes_begin, passes_more, passes_stop, passes_end}
use Rattle.entry_faults.proofs.frame.from_unclosed.Goals as goal

pub loop-i-init : goal.loop-i-init
loop-i-init c = passes_begin c.args.reached.now c.args.marks.now c.args.ends.now

pub loop-i-preserved : goal.loop-i-preserved
loop-i-preserved c = passes_more c.args.reached.now c.args.marks.now c.args.ends.now c.loop-i.i c.is_closed.result
    c.loop-i-test.true c.is_closed.ensures c.if-not-is_closed.false c.loop-i.invariant

pub returns-then-not-is_closed : goal.returns-then-not-is_closed
returns-then-not-is_closed c = passes_stop c.args.reached.now c.args.marks.now c.args.ends.now c.loop-i.i
    c.is_closed.result c.from_point.result.now c.loop-i-test.true c.is_closed.ensures c.if-not-is_closed.true
    c.from_point.ensures c.loop-i.invariant

pub returns : goal.returns
returns c = passes_end c.args.reached.now c.args.marks.now c.args.ends.now c.loop-i.i c.from_point-2.result.now
    c.loop-i-test.false c.from_point-2.ensures c.loop-i.invariant
