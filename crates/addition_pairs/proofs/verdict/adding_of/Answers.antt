use Rattle.entry_additions.specs.Added.{targets}
use Rattle.addition_pairs.proofs.Telling.{nothing_shared, other_told, same_told}
use Rattle.addition_pairs.proofs.verdict.adding_of.Goals as goal

pub returns-then-is_nothing : goal.returns-then-is_nothing
returns-then-is_nothing c =
    nothing_shared c.args.first.now c.args.later.now (targets c.args.first_adds.now) (targets c.args.later_adds.now)
    (targets c.in_ok-shared.shared) c.is_nothing.result
    c.in_ok-shared.ensures.shared c.is_nothing.ensures c.if-is_nothing.true

pub returns-then-is_same : goal.returns-then-is_same
returns-then-is_same c =
    same_told c.args.first.now c.args.later.now (targets c.args.first_adds.now) (targets c.args.later_adds.now)
    (targets c.in_ok-shared.shared) c.in_ok-whole.whole c.in_ok-told.told
    c.in_ok-shared.ensures.shared c.in_ok-whole.ensures c.in_ok-told.ensures c.is_same.result c.is_same.ensures c.if-is_same.true

pub returns : goal.returns
returns c =
    other_told c.args.first.now c.args.later.now (targets c.args.first_adds.now) (targets c.args.later_adds.now)
    (targets c.in_ok-shared.shared) c.in_ok-whole.whole c.in_ok-told.told
    c.in_ok-shared.ensures.shared c.in_ok-whole.ensures c.in_ok-told.ensures c.is_same.result c.is_same.ensures c.if-is_same.false
