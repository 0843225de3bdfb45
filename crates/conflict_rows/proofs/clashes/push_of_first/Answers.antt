use Rattle.std.proofs.Common.{◌+◌, arith}
use Rattle.conflict_rows.specs.Near.{IsOfFirst}
use Rattle.conflict_rows.proofs.Loops.{items_begin, items_more, items_end}
use Rattle.conflict_rows.proofs.Passing.{first_passed}
use Rattle.conflict_rows.proofs.clashes.push_of_first.Goals as goal

pub loop-place-init : goal.loop-place-init
loop-place-init c = (
  c.next_near-place.ensures.there,
  first_passed c.args.others.now c.args.ones.now 0 c.next_near-place.result c.args.rows.now c.args.rows.now c.next_near-place.ensures
      (items_begin (IsOfFirst c.args.others.now) c.args.ones.now c.args.rows.now),
)

pub loop-place-preserved : goal.loop-place-preserved
loop-place-preserved c = (
  c.next_near-place-in-loop-place.ensures.there,
  first_passed c.args.others.now c.args.ones.now (c.loop-place.place + 1) c.next_near-place-in-loop-place.result c.args.rows.now
      c.push_with.new.rows c.next_near-place-in-loop-place.ensures
      (items_more (IsOfFirst c.args.others.now) c.args.ones.now c.loop-place.place c.at.result c.args.rows.now
      c.loop-place.rows c.push_with.new.rows c.at.ensures c.in_ok-push_with.ensures c.loop-place.invariant.1),
)

pub loop-place-smaller : goal.loop-place-smaller
loop-place-smaller c = (let up = c.next_near-place-in-loop-place.ensures.up in let lt = c.loop-place-test.true in omega (arith, up, lt))

pub returns : goal.returns
returns c =
    items_end (IsOfFirst c.args.others.now) c.args.ones.now c.loop-place.place c.args.rows.now c.loop-place.rows
    c.loop-place-test.false c.loop-place.invariant.1
