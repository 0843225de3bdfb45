use Rattle.certificate_faults.specs.Returned.{given_about}
use Rattle.certificate_faults.proofs.Firsts.{no_fact}
use Rattle.certificate_faults.proofs.Lowered.{lowers_begin, lowers_end, lowers_misses, lowers_more}
use Rattle.certificate_faults.proofs.missing.lowest_of_points.Goals as goal

pub loop-fact-init : goal.loop-fact-init
loop-fact-init g c = lowers_begin (g.K.KnownFacts.knows c.args.known.now)
    (given_about c.args.exchange.now c.args.table.now (g.K.KnownFacts.knows c.args.known.now)) c.args.reached.now
    c.args.first c.requires.missing

pub lowest_about-requires-clause-missing : goal.lowest_about-requires-clause-missing
lowest_about-requires-clause-missing g c = lowers_misses (g.K.KnownFacts.knows c.args.known.now)
    (given_about c.args.exchange.now c.args.table.now (g.K.KnownFacts.knows c.args.known.now)) c.args.reached.now
    c.args.first c.loop-fact.fact-index c.loop-fact.least c.loop-fact.invariant

pub loop-fact-preserved : goal.loop-fact-preserved
loop-fact-preserved g c =
    lowers_more (g.K.KnownFacts.knows c.args.known.now)
    (given_about c.args.exchange.now c.args.table.now (g.K.KnownFacts.knows c.args.known.now)) c.args.reached.now
    c.args.first c.loop-fact.fact-index no_fact c.loop-fact.least c.in_ok-least.least c.loop-fact-test.true
    c.in_ok-least.ensures c.loop-fact.invariant

pub returns : goal.returns
returns g c = lowers_end (g.K.KnownFacts.knows c.args.known.now)
    (given_about c.args.exchange.now c.args.table.now (g.K.KnownFacts.knows c.args.known.now)) c.args.reached.now
    c.args.first c.loop-fact.fact-index c.loop-fact.least c.loop-fact-test.false c.loop-fact.invariant
