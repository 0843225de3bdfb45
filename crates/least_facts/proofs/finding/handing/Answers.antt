use Rattle.least_facts.proofs.Flowing.{handing_more}
use Rattle.least_facts.proofs.finding.handing.Goals as goal

pub loop-k-preserved : goal.loop-k-preserved
loop-k-preserved c = handing_more c.loop-k.k c.loop-k.values c.push.new.self c.in_ok-push.ensures c.loop-k.invariant
