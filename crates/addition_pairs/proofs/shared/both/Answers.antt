use Rattle.std.proofs.Common.{◌∙◌}
use Rattle.addition_pairs.proofs.Sparing.{both, both_rising}
use Rattle.addition_pairs.proofs.shared.both.Goals as goal

pub returns-in-Ok-clause-both : goal.returns-in-Ok-clause-both
returns-in-Ok-clause-both c = both c.args.first.now c.args.later.now c.from_vec.result (c.from_vec.ensures ∙ c.in-Ok.ensures)

pub returns-in-Ok-clause-rising : goal.returns-in-Ok-clause-rising
returns-in-Ok-clause-rising c = both_rising c.args.first.now c.args.later.now c.from_vec.result c.requires.first (c.from_vec.ensures ∙ c.in-Ok.ensures)
