use Rattle.certificate_faults.proofs.Lowered.{to_all, to_none}
use Rattle.certificate_faults.proofs.missing.lowest_at_retrieves.Goals as goal

pub returns-in_ok-lower-in-Some : goal.returns-in_ok-lower-in-Some
returns-in_ok-lower-in-Some g c =
    to_all c.args.exchange.now c.args.table.now (g.K.KnownFacts.knows c.args.known.now) c.args.flow.now.entry
    c.args.flow.now.point c.args.flow.now.how.now c.args.answer c.in-Some.points.now c.as_slice-ends.result.now
    c.args.least c.in_ok-lower-in-Some.lower c.requires.table c.in-Some.ensures c.as_slice-ends.ensures
    c.in_ok-lower-in-Some.ensures

pub returns-in-None : goal.returns-in-None
returns-in-None g c = to_none c.args.exchange.now c.args.table.now (g.K.KnownFacts.knows c.args.known.now)
    c.args.flow.now.entry c.args.flow.now.point c.args.flow.now.how.now c.args.answer c.args.least c.kept.ensures
    c.requires.table c.in-None.ensures c.requires.missing
