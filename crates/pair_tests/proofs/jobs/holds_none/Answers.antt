use Rattle.pair_tests.proofs.Holding.{held_none}
use Rattle.pair_tests.proofs.jobs.holds_none.Goals as goal

pub returns : goal.returns
returns c = held_none c.args.chain.now c.args.file c.are_of_others.result c.are_of_others.ensures
