use Rattle.addition_pairs.proofs.Same.{tests_same}
use Rattle.addition_pairs.proofs.told.are_same.Goals as goal

pub returns : goal.returns
returns c = tests_same c.args.some.now c.args.others.now c.eq.result c.eq.ensures
