use Rattle.access_summary.proofs.Summed.{summary_of_least}
use Rattle.access_summary.proofs.least.all_by_learned.Goals as goal

pub returns : goal.returns
returns c = summary_of_least c.args.exchange.now c.args.entry c.known-known.result.now c.in_ok-summary.summary
    (c.known-known.ensures c.args.exchange.now c.args.entry c.requires.learned) c.in_ok-summary.ensures
