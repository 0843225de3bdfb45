use Rattle.std.proofs.Common.{◌∙◌}
use Rattle.kept_summaries.proofs.Placing.{shown_long}
use Rattle.kept_summaries.proofs.summaries.Summaries.len.Goals as goal

pub returns : goal.returns
returns c = c.len.ensures ∙ shown_long c.self.inside.kept c.self.inside.order c.args.self.now c.self.invariant c.self.view_is
