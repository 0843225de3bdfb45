use Rattle.std.proofs.Common.{get_or}
use Rattle.certificate_faults.proofs.Firsts.{first_end, first_here, first_more, item_is, no_fact}
use Rattle.certificate_faults.proofs.strange.first_strange.Goals as goal

pub returns-then-not-is_of_exchange : goal.returns-then-not-is_of_exchange
returns-then-not-is_of_exchange c =
    first_here c.args.exchange.now c.args.facts.now c.loop-fact.fact-index
    (get_or c.args.facts.now c.loop-fact.fact-index no_fact) c.is_of_exchange.result c.loop-fact-test.true
    (item_is c.args.facts.now c.loop-fact.fact-index no_fact c.loop-fact-test.true) c.is_of_exchange.ensures
    c.if-not-is_of_exchange.true c.loop-fact.invariant

pub loop-fact-preserved : goal.loop-fact-preserved
loop-fact-preserved c =
    first_more c.args.exchange.now c.args.facts.now c.loop-fact.fact-index
    (get_or c.args.facts.now c.loop-fact.fact-index no_fact) c.is_of_exchange.result c.loop-fact-test.true
    (item_is c.args.facts.now c.loop-fact.fact-index no_fact c.loop-fact-test.true) c.is_of_exchange.ensures
    c.if-not-is_of_exchange.false c.loop-fact.invariant

pub returns : goal.returns
returns c = first_end c.args.exchange.now c.args.facts.now c.loop-fact.fact-index c.loop-fact-test.false c.loop-fact.invariant
