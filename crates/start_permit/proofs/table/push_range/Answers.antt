use Rattle.std.proofs.Common.{◌+◌}
use Rattle.start_permit.proofs.Tabled.{range_more}
use Rattle.start_permit.proofs.table.push_range.Goals as goal

pub loop-i-preserved : goal.loop-i-preserved
loop-i-preserved c = range_more c.args.words.now c.loop-i.words c.push.new.self (λ i. c.args.first + i) c.loop-i.i c.in_ok-push.ensures c.loop-i.invariant
