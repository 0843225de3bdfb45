use Rattle.flow_table.proofs.Reaching.{among_begin, among_more, among_end}
use Rattle.flow_table.proofs.reached.reached_places.Goals as goal

pub loop-at-init : goal.loop-at-init
loop-at-init g c = among_begin (g.K.KnownFacts.knows c.args.known.now) c.args.entry c.args.places.now c.new-there.result c.new-there.ensures

pub loop-at-preserved : goal.loop-at-preserved
loop-at-preserved g c = among_more (g.K.KnownFacts.knows c.args.known.now) c.args.entry c.args.places.now
    c.loop-at.at-index c.at-item.result c.loop-at.there c.push_reached.new.there c.loop-at-test.true c.at-item.is
    c.in_ok-push_reached.ensures c.loop-at.invariant

pub returns : goal.returns
returns g c = among_end (g.K.KnownFacts.knows c.args.known.now) c.args.entry c.args.places.now c.loop-at.at-index
    c.loop-at.there c.loop-at-test.false c.loop-at.auto.at-index-end c.loop-at.invariant
