use Rattle.certificate_faults.proofs.Joining.{ways_small}
use Rattle.certificate_faults.proofs.Lowered.{at_ways, no_row}
use Rattle.certificate_faults.proofs.missing.lowest_sent.Goals as goal

pub lowest_of_ways-requires-clause-small : goal.lowest_of_ways-requires-clause-small
lowest_of_ways-requires-clause-small g c = ways_small c.args.exchange.now c.args.table.now c.args.fact.point
    c.in-Some.row.now c.as_slice-ways.result.now c.kept.ensures c.requires.table c.in-Some.ensures
    c.as_slice-ways.ensures

pub returns-in_ok-lower-in-Some : goal.returns-in_ok-lower-in-Some
returns-in_ok-lower-in-Some g c =
    at_ways c.args.exchange.now c.args.table.now (g.K.KnownFacts.knows c.args.known.now) c.args.fact.entry
    c.args.fact.point c.in-Some.row.now c.as_slice-ways.result.now c.args.least c.in_ok-lower-in-Some.lower
    c.in-Some.ensures c.as_slice-ways.ensures c.requires.reached c.in_ok-lower-in-Some.ensures

pub returns-in-None : goal.returns-in-None
returns-in-None g c = no_row c.args.exchange.now c.args.table.now (g.K.KnownFacts.knows c.args.known.now)
    c.args.fact.entry c.args.fact.point c.args.least c.in-None.ensures c.requires.missing
