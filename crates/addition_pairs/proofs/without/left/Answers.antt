use Rattle.std.proofs.Common.{arith}
use Rattle.entry_additions.specs.Added.{targets}
use Rattle.addition_pairs.proofs.Leaving.{left_begin, left_end, left_more}
use Rattle.addition_pairs.proofs.without.left.Goals as goal

pub loop-place-init : goal.loop-place-init
loop-place-init c =
    left_begin (targets c.args.spared.now) c.args.others.now c.args.ones.now c.next_near-place.result c.new-kept.result
    c.new-kept.ensures c.next_near-place.ensures

pub loop-place-preserved : goal.loop-place-preserved
loop-place-preserved c =
    left_more (targets c.args.spared.now) c.args.others.now c.args.ones.now c.loop-place.place c.next_near-place-in-loop-place.result c.at.result
    c.loop-place.kept c.push_kept.new.kept c.requires.ones c.at.ensures c.in_ok-push_kept.ensures c.next_near-place-in-loop-place.ensures
    c.loop-place.invariant

pub loop-place-smaller : goal.loop-place-smaller
loop-place-smaller c = (let up = c.next_near-place-in-loop-place.ensures.up in let lt = c.loop-place-test.true in omega (arith, up, lt))

pub returns-clause-left : goal.returns-clause-left
returns-clause-left c =
    left_end (targets c.args.spared.now) c.args.others.now c.args.ones.now c.loop-place.place c.loop-place.kept
    c.loop-place-test.false c.loop-place.invariant

pub returns-clause-rising : goal.returns-clause-rising
returns-clause-rising c = c.loop-place.invariant.rising
