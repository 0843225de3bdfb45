use Rattle.pair_tests.proofs.Holding.{with_more}
use Rattle.pair_tests.proofs.passing.hold_among.Goals as goal

pub loop-other-preserved : goal.loop-other-preserved
loop-other-preserved c =
    with_more c.args.a.now c.args.b.now c.args.one c.args.others.now c.loop-other.other-index _ c.asked.result c.holds_if.result
    c.loop-other-test.true c.asked.ensures c.holds_if.ensures c.if-not-holds_if.false c.loop-other.invariant
