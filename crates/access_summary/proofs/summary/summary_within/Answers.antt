use Rattle.access_summary.proofs.Summed.{reached_in}
use Rattle.access_summary.proofs.summary.summary_within.Goals as goal

pub accesses_within-requires-clause-places : goal.accesses_within-requires-clause-places
accesses_within-requires-clause-places g c = reached_in c.args.exchange.now (g.K.KnownFacts.knows c.args.known.now)
    c.args.entry c.args.places.now c.in_ok-there.there c.as_slice-reached.result.now c.requires.places
    c.in_ok-there.ensures c.as_slice-reached.ensures

pub levels_of-requires : goal.levels_of-requires
levels_of-requires g c = reached_in c.args.exchange.now (g.K.KnownFacts.knows c.args.known.now) c.args.entry
    c.args.places.now c.in_ok-there.there c.as_slice-reached.result.now c.requires.places c.in_ok-there.ensures
    c.as_slice-reached.ensures

pub may_fault-requires-clause-reached : goal.may_fault-requires-clause-reached
may_fault-requires-clause-reached g c = reached_in c.args.exchange.now (g.K.KnownFacts.knows c.args.known.now)
    c.args.entry c.args.places.now c.in_ok-there.there c.as_slice-reached.result.now c.requires.places
    c.in_ok-there.ensures c.as_slice-reached.ensures
