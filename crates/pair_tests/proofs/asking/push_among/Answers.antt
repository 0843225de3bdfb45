use Rattle.pair_tests.proofs.Tested.{with_more}
use Rattle.pair_tests.proofs.asking.push_among.Goals as goal

pub loop-other-preserved : goal.loop-other-preserved
loop-other-preserved c =
    with_more c.args.one c.args.others.now c.loop-other.other-index _ c.asked.result c.args.tests.now c.loop-other.tests c.push_test.new.tests
    c.loop-other-test.true c.asked.ensures c.loop-other.invariant c.in_ok-push_test.ensures
