use Rattle.entry_accesses.proofs.Opened.{written_more, written_end}
use Rattle.entry_accesses.proofs.opening.push_written.Goals as goal

pub loop-number-preserved : goal.loop-number-preserved
loop-number-preserved c = written_more c.args.first c.args.end c.loop-number.number c.args.all.now c.loop-number.all
    c.push.new.self c.loop-number-test.true c.in_ok-push.ensures c.loop-number.invariant

pub returns : goal.returns
returns c = written_end c.args.first c.args.end c.loop-number.number c.args.all.now c.loop-number.all c.loop-number-test.false c.loop-number.invariant
