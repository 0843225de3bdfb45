use Rattle.entry_faults.proofs.Sending.{sends_begin, sends_more, sends_end, few_sends}
use Rattle.entry_faults.proofs.sends.too_many_sends.Goals as goal

pub loop-at-init : goal.loop-at-init
loop-at-init g c = sends_begin c.args.exchange.now (g.K.KnownFacts.knows c.args.known.now) c.args.entry c.args.places.now

pub counted-sends-requires : goal.counted-sends-requires
counted-sends-requires g c = few_sends c.args.exchange.now (g.K.KnownFacts.knows c.args.known.now) c.args.entry
    c.loop-at.at-index c.loop-at.sends c.args.places.now c.kept.ensures c.requires c.loop-at-test.true
    c.loop-at.invariant

pub loop-at-preserved : goal.loop-at-preserved
loop-at-preserved g c = sends_more c.args.exchange.now (g.K.KnownFacts.knows c.args.known.now) c.args.entry
    c.args.places.now c.loop-at.at-index c.at-item.result c.requires c.loop-at-test.true c.at-item.is c.loop-at.sends
    c.counted-sends.result c.posts_at.result c.posts_at.ensures c.counted-sends.ensures c.loop-at.invariant

pub returns : goal.returns
returns g c = sends_end c.args.exchange.now (g.K.KnownFacts.knows c.args.known.now) c.args.entry c.args.places.now
    c.loop-at.at-index c.loop-at.sends c.requires c.loop-at-test.false c.loop-at.invariant
