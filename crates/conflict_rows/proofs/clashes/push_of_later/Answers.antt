use Rattle.std.proofs.Common.{◌+◌, arith}
use Rattle.conflict_rows.specs.Near.{IsOfLater}
use Rattle.conflict_rows.proofs.Loops.{items_begin, items_more, items_end}
use Rattle.conflict_rows.proofs.Passing.{later_passed, variables_passed}
use Rattle.conflict_rows.proofs.clashes.push_of_later.Goals as goal

pub loop-place-init : goal.loop-place-init
loop-place-init c = (
  c.next_near-place.ensures.there,
  later_passed c.args.ones.now c.args.others.now c.first_field.result c.next_near-place.result c.args.rows.now c.args.rows.now
      c.next_near-place.ensures
      (variables_passed c.args.ones.now c.args.others.now c.first_field.result c.args.rows.now c.args.rows.now c.first_field.ensures
      (items_begin (IsOfLater c.args.ones.now) c.args.others.now c.args.rows.now)),
)

pub loop-place-preserved : goal.loop-place-preserved
loop-place-preserved c = (
  c.next_near-place-in-loop-place.ensures.there,
  later_passed c.args.ones.now c.args.others.now (c.loop-place.place + 1) c.next_near-place-in-loop-place.result c.args.rows.now
      c.push_field.new.rows c.next_near-place-in-loop-place.ensures
      (items_more (IsOfLater c.args.ones.now) c.args.others.now c.loop-place.place c.at.result c.args.rows.now
      c.loop-place.rows c.push_field.new.rows c.at.ensures c.in_ok-push_field.ensures c.loop-place.invariant.1),
)

pub loop-place-smaller : goal.loop-place-smaller
loop-place-smaller c = (let up = c.next_near-place-in-loop-place.ensures.up in let lt = c.loop-place-test.true in omega (arith, up, lt))

pub returns : goal.returns
returns c =
    items_end (IsOfLater c.args.ones.now) c.args.others.now c.loop-place.place c.args.rows.now c.loop-place.rows
    c.loop-place-test.false c.loop-place.invariant.1
