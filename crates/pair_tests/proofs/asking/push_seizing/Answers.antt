use Rattle.pair_tests.proofs.Tested.{seizing_more}
use Rattle.pair_tests.proofs.asking.push_seizing.Goals as goal

pub loop-other-preserved : goal.loop-other-preserved
loop-other-preserved c =
    seizing_more c.args.others.now c.loop-other.other-index _ c.release_test.result c.args.tests.now c.loop-other.tests c.push_test.new.tests
    c.loop-other-test.true c.release_test.ensures c.loop-other.invariant c.in_ok-push_test.ensures
