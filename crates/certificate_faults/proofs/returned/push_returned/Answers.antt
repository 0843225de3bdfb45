use Rattle.fact_flows.proofs.Gathering.{gather_begin, gather_end, gather_more}
use Rattle.certificate_faults.specs.Returned.{returned_at}
use Rattle.certificate_faults.proofs.Firsts.{no_fact}
use Rattle.certificate_faults.proofs.returned.push_returned.Goals as goal

pub loop-fact-init : goal.loop-fact-init
loop-fact-init g c = gather_begin (returned_at c.args.exchange.now c.args.table.now (g.K.KnownFacts.knows c.args.known.now)) c.args.reached.now c.args.given.now

pub loop-fact-preserved : goal.loop-fact-preserved
loop-fact-preserved g c = gather_more (returned_at c.args.exchange.now c.args.table.now
    (g.K.KnownFacts.knows c.args.known.now)) c.args.reached.now c.loop-fact.fact-index no_fact c.args.given.now
    c.loop-fact.given c.push_point.new.given c.loop-fact-test.true c.in_ok-push_point.ensures c.loop-fact.invariant

pub returns : goal.returns
returns g c = gather_end (returned_at c.args.exchange.now c.args.table.now (g.K.KnownFacts.knows c.args.known.now))
    c.args.reached.now c.loop-fact.fact-index c.args.given.now c.loop-fact.given c.loop-fact-test.false
    c.loop-fact.invariant
