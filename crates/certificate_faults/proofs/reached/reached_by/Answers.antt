use Rattle.certificate_faults.proofs.Firsts.{no_fact}
use Rattle.certificate_faults.proofs.Standing.{reaches_begin, reaches_end, reaches_more}
use Rattle.certificate_faults.proofs.reached.reached_by.Goals as goal

pub loop-fact-init : goal.loop-fact-init
loop-fact-init c = reaches_begin c.args.facts.now c.new-reached.result

pub loop-fact-preserved : goal.loop-fact-preserved
loop-fact-preserved c = reaches_more c.args.facts.now c.loop-fact.fact-index no_fact c.loop-fact.last c.in_ok-last.last
    c.loop-fact.reached c.list_next.new.reached c.loop-fact-test.true c.in_ok-last.ensures c.loop-fact.invariant

pub returns : goal.returns
returns c = reaches_end c.args.facts.now c.loop-fact.fact-index c.loop-fact.last c.loop-fact.reached c.loop-fact-test.false c.loop-fact.invariant
