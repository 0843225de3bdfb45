use Rattle.entry_additions.specs.Added.{targets}
use Rattle.addition_pairs.proofs.Judging.{sparing_told}
use Rattle.addition_pairs.proofs.verdict.spared.Goals as goal

pub returns : goal.returns
returns c =
    sparing_told c.args.first.now c.args.later.now c.in_ok-left.left (targets c.args.shared.now) c.told_of.result
    c.in_ok-left.ensures c.told_of.ensures
