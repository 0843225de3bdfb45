use Rattle.std.proofs.Common.{refl}
use Rattle.interference_check.proofs.Tabling.{found_tells, right_now, told_after, told_alike}
use Rattle.interference_check.proofs.table.tell.Goals as goal

pub keep-requires-clause-so_far : goal.keep-requires-clause-so_far
keep-requires-clause-so_far c =
    told_after c.args.checked.now c.args.learned.now.told c.summary-one.result.now c.summary-other.result.now
    c.args.learned.now.tests c.pair_of-pair.new.tests c.pair_of-pair.result c.pair_of-pair.ensures c.requires.so_far

pub keep-requires-clause-one : goal.keep-requires-clause-one
keep-requires-clause-one c =
    right_now c.args.checked.now c.first_like-like_first.result c.first_like-like_later.result c.summary-one.result.now
    c.summary-other.result.now c.args.learned.now.tests c.pair_of-pair.new.tests c.pair_of-pair.result
    c.summary-one.ensures.it c.summary-other.ensures.it c.pair_of-pair.ensures

pub returns-in-Some-clause-pair : goal.returns-in-Some-clause-pair
returns-in-Some-clause-pair c =
    told_alike c.args.checked.now c.args.first c.args.later c.first_like-like_first.result
    c.first_like-like_later.result c.args.learned.now.tests c.args.learned.now.tests c.in-Some.told.pair
    c.first_like-like_first.ensures.same c.first_like-like_later.ensures.same refl
    (found_tells c.args.checked.now c.args.learned.now.told c.args.learned.now.tests c.first_like-like_first.result
    c.first_like-like_later.result c.in-Some.told c.requires.so_far c.in-Some.ensures)

pub returns-clause-pair : goal.returns-clause-pair
returns-clause-pair c =
    told_alike c.args.checked.now c.args.first c.args.later c.first_like-like_first.result
    c.first_like-like_later.result c.pair_of-pair.new.tests c.keep.new.learned.tests c.pair_of-pair.result
    c.first_like-like_first.ensures.same c.first_like-like_later.ensures.same c.keep.ensures.tests
    (right_now c.args.checked.now c.first_like-like_first.result c.first_like-like_later.result c.summary-one.result.now
    c.summary-other.result.now c.args.learned.now.tests c.pair_of-pair.new.tests c.pair_of-pair.result
    c.summary-one.ensures.it c.summary-other.ensures.it c.pair_of-pair.ensures)
