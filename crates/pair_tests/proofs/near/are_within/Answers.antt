use Rattle.pair_tests.proofs.Nearing.{first_within}
use Rattle.pair_tests.proofs.near.are_within.Goals as goal

pub returns : goal.returns
returns c = first_within c.args.bound c.args.accesses.now c.args.count c.at.result c.is_within.result c.requires
    c.if-count-eq0.false c.if-count-accesses.false c.at.ensures c.is_within.ensures
