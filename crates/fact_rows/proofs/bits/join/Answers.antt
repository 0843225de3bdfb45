use Rattle.std.proofs.Common.{arith, refl}
use Rattle.fact_rows.proofs.Joining.{joins_begin, joins_more, joined_numbers, joined_counted}
use Rattle.fact_rows.proofs.bits.join.Goals as goal

pub loop-place-init : goal.loop-place-init
loop-place-init c = joins_begin c.args.words.now c.args.others.now

pub loop-place-preserved : goal.loop-place-preserved
loop-place-preserved c =
    joins_more c.args.words.now c.args.others.now c.loop-place.words c.loop-place.place _ _ _
    (omega (arith, c.loop-place-test.true, c.loop-place.auto.words))
    (omega (arith, c.type_inv.others c.loop-place.place)) refl refl refl c.loop-place.grown c.loop-place.invariant

pub returns-clause-numbers : goal.returns-clause-numbers
returns-clause-numbers c = joined_numbers c.args.words.now c.args.others.now c.loop-place.words c.loop-place.place
    c.loop-place.grown c.loop-place.invariant (omega arith) c.requires

pub returns-clause-counted : goal.returns-clause-counted
returns-clause-counted c = joined_counted c.args.words.now c.args.others.now c.loop-place.words c.loop-place.place
    c.loop-place.grown c.loop-place.invariant (omega arith) c.requires

pub returns-clause-long : goal.returns-clause-long
returns-clause-long c = c.loop-place.invariant.long
