use Rattle.kept_summaries.proofs.Placing.{first_same, first_within, within_order}
use Rattle.kept_summaries.proofs.summaries.Summaries.first_like.Goals as goal

pub standing_at-standing-requires : goal.standing_at-standing-requires
standing_at-standing-requires c = within_order c.self.inside.kept c.self.inside.order c.args.self.now c.self.invariant c.self.view_is c.args.i c.requires

pub returns-clause-within : goal.returns-clause-within
returns-clause-within c = first_within c.self.inside.kept c.self.inside.order c.args.self.now c.self.invariant
    c.self.view_is c.args.i c.standing_at-standing.result c.standing_at-standing.ensures

pub returns-clause-same : goal.returns-clause-same
returns-clause-same c = first_same c.self.inside.kept c.self.inside.order c.args.self.now c.self.invariant
    c.self.view_is c.args.i c.standing_at-standing.result c.standing_at-standing.ensures
