use Rattle.std.proofs.Common.{arith}
use Rattle.pair_tests.proofs.Tested.{all_begin, all_end}
use Rattle.pair_tests.proofs.Skipping.{tests_more}
use Rattle.pair_tests.proofs.asking.push_fields.Goals as goal

pub loop-place-init : goal.loop-place-init
loop-place-init c = (omega arith, all_begin c.args.others.now c.args.tests.now)

pub loop-place-preserved : goal.loop-place-preserved
loop-place-preserved c = (
  c.next_near-place.ensures.there,
  tests_more c.args.ones.now c.args.others.now c.loop-place.place c.next_near-place.result c.at.result c.args.tests.now c.loop-place.tests c.push_with.new.tests
      c.at.ensures c.loop-place.invariant.1 c.in_ok-push_with.ensures c.next_near-place.ensures,
)

pub loop-place-smaller : goal.loop-place-smaller
loop-place-smaller c = (let up = c.next_near-place.ensures.up in let lt = c.loop-place-test.true in omega (arith, up, lt))

pub returns : goal.returns
returns c = all_end c.args.ones.now c.args.others.now c.loop-place.place c.args.tests.now c.loop-place.tests c.loop-place-test.false c.loop-place.invariant.1
