use Rattle.std.proofs.Common.{refl, rules}
use Rattle.start_permit.proofs.Choosing.{gaps_begin, gaps_more, gaps_end, number_fits}
use Rattle.start_permit.proofs.runs.gaps.Goals as goal

pub loop-number-init : goal.loop-number-init
loop-number-init c = gaps_begin c.args.numbers.now c.new-runs.result c.new-runs.ensures

pub overflow_add-next : goal.overflow_add-next
overflow_add-next c =
    let small = number_fits c.args.numbers.now c.loop-number.number-index 0 c.args.size c.loop-number-test.true c.requires.below c.is_word.ensures in
    search (rules, small)

pub loop-number-preserved : goal.loop-number-preserved
loop-number-preserved c =
    gaps_more c.args.numbers.now c.loop-number.number-index _ c.loop-number.next _ _ c.run_between.result
    c.loop-number.runs c.push.new.self c.requires.rising c.loop-number-test.true refl
    c.run_between.ensures.low c.run_between.ensures.back refl c.in_ok-push.ensures c.loop-number.invariant

pub returns : goal.returns
returns c =
    gaps_end c.args.numbers.now c.loop-number.number-index c.args.size c.loop-number.next c.run_between-2.result
    c.loop-number.runs c.push-2.new.self c.loop-number-test.false c.requires.below
    c.run_between-2.ensures.low c.run_between-2.ensures.back c.in_ok-push-2.ensures c.loop-number.invariant
