use Rattle.std.proofs.Common.{arith}
use Rattle.pair_tests.proofs.Holding.{all_begin, all_end}
use Rattle.pair_tests.proofs.Skipping.{hold_fails, hold_more}
use Rattle.pair_tests.proofs.passing.fields_hold.Goals as goal

pub loop-place-init : goal.loop-place-init
loop-place-init c = (omega arith, all_begin c.args.a.now c.args.b.now c.args.others.now)

pub loop-place-preserved : goal.loop-place-preserved
loop-place-preserved c = (
  c.next_near-place.ensures.there,
  hold_more c.args.a.now c.args.b.now c.args.ones.now c.args.others.now c.loop-place.place c.next_near-place.result c.at.result c.hold_with.result
      c.at.ensures c.loop-place.invariant.1 c.hold_with.ensures c.if-not-hold_with.false c.next_near-place.ensures,
)

pub loop-place-smaller : goal.loop-place-smaller
loop-place-smaller c = (let up = c.next_near-place.ensures.up in let lt = c.loop-place-test.true in omega (arith, up, lt))

pub returns-then-not-hold_with : goal.returns-then-not-hold_with
returns-then-not-hold_with c = hold_fails c.args.a.now c.args.b.now c.args.ones.now c.args.others.now c.loop-place.place
    c.at.result c.hold_with.result c.at.ensures c.hold_with.ensures c.if-not-hold_with.true

pub returns : goal.returns
returns c = all_end c.args.a.now c.args.b.now c.args.ones.now c.args.others.now c.loop-place.place c.loop-place-test.false c.loop-place.invariant.1
