use Rattle.certificate_faults.proofs.Lowered.{lowest_of}
use Rattle.fact_flows.specs.Given.{GivenAtStart}
use Rattle.certificate_faults.proofs.missing.lowest_at_start.Goals as goal

pub returns : goal.returns
returns g c = lowest_of (g.K.KnownFacts.knows c.args.known.now)
    (GivenAtStart c.args.exchange.now (g.K.KnownFacts.knows c.args.known.now) c.args.entry) c.args.least c.lowest.result
    c.new-given.result c.push_given_at_start.new.facts c.as_slice.result.now c.new-given.ensures
    c.in_ok-push_given_at_start.ensures c.as_slice.ensures c.lowest.ensures
