use Rattle.entry_faults.proofs.Rounding.{reached_begin, reached_more, reached_end}
use Rattle.entry_faults.proofs.round.reached_of.Goals as goal

pub loop-at-init : goal.loop-at-init
loop-at-init g c = reached_begin (g.K.KnownFacts.knows c.args.known.now) c.args.entry c.args.places.now c.new-reached.result c.new-reached.ensures

pub loop-at-preserved : goal.loop-at-preserved
loop-at-preserved g c = reached_more (g.K.KnownFacts.knows c.args.known.now) c.args.entry c.args.places.now
    c.loop-at.at-index c.at-item.result c.is_reached.result c.loop-at.reached c.push.new.self c.loop-at-test.true
    c.at-item.is c.is_reached.ensures c.in_ok-push.ensures c.loop-at.invariant

pub returns : goal.returns
returns g c = reached_end (g.K.KnownFacts.knows c.args.known.now) c.args.entry c.args.places.now c.loop-at.at-index
    c.loop-at.reached c.loop-at.auto.at-index-end c.loop-at-test.false c.loop-at.invariant
