use Rattle.pair_tests.proofs.Holding.{seizing_more}
use Rattle.pair_tests.proofs.passing.seizing_holds.Goals as goal

pub loop-other-preserved : goal.loop-other-preserved
loop-other-preserved c =
    seizing_more c.args.a.now c.args.b.now c.args.others.now c.loop-other.other-index _ c.release_test.result c.holds_if.result
    c.loop-other-test.true c.release_test.ensures c.holds_if.ensures c.if-not-holds_if.false c.loop-other.invariant
