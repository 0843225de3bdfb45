use Rattle.interference_check.proofs.Following.{told_together, told_way}
use Rattle.interference_check.proofs.table.PairTable.may_follow.Goals as goal

pub returns-clause-together : goal.returns-clause-together
returns-clause-together c = told_together c.args.self.now c.args.first.now c.args.later.now c.passes.result c.passes.ensures.exact

pub returns-clause-way : goal.returns-clause-way
returns-clause-way c = told_way c.args.self.now c.args.first.now c.args.later.now c.passes.result c.passes.ensures.exact
