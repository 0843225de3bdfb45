use Rattle.access_summary.proofs.Summed.{summed_least}
use Rattle.access_summary.proofs.least.by_learned.Goals as goal

pub returns : goal.returns
returns c = summed_least c.args.exchange.now c.args.entry c.known-known.result.now c.args.most c.in_ok-summed.summed
    (c.known-known.ensures c.args.exchange.now c.args.entry c.requires.learned) c.in_ok-summed.ensures
