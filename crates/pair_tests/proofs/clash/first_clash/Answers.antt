use Rattle.std.proofs.Common.{arith}
use Rattle.pair_tests.proofs.Leasts.{of_none}
use Rattle.pair_tests.proofs.Skipping.{least_more, least_end}
use Rattle.pair_tests.proofs.clash.first_clash.Goals as goal

pub loop-place-init : goal.loop-place-init
loop-place-init c = (omega arith, of_none c.args.others.now)

pub loop-place-preserved : goal.loop-place-preserved
loop-place-preserved c = (
  c.next_sooner-place.ensures.there,
  least_more c.args.ones.now c.args.others.now c.loop-place.place c.next_sooner-place.result c.at.result
      c.loop-place.least c.first_with.result c.sooner-least.result
      c.at.ensures c.loop-place.invariant.1 c.first_with.ensures c.sooner-least.ensures c.next_sooner-place.ensures,
)

pub loop-place-smaller : goal.loop-place-smaller
loop-place-smaller c = (let up = c.next_sooner-place.ensures.up in let lt = c.loop-place-test.true in omega (arith, up, lt))

pub returns : goal.returns
returns c = least_end c.args.ones.now c.args.others.now c.loop-place.place c.loop-place.least c.loop-place-test.false c.loop-place.invariant.1
