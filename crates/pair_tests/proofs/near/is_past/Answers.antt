use Rattle.pair_tests.proofs.Nearing.{one_within}
use Rattle.pair_tests.proofs.near.is_past.Goals as goal

pub returns : goal.returns
returns c = one_within c.args.bound c.args.accesses.now c.args.place c.at.result c.is_within.result c.requires
    c.if-place-accesses.false c.at.ensures c.is_within.ensures
