use Rattle.kept_summaries.proofs.Placing.{shown_at, within_kept, within_order}
use Rattle.kept_summaries.proofs.summaries.Summaries.at.Goals as goal

pub standing_at-standing-requires : goal.standing_at-standing-requires
standing_at-standing-requires c = within_order c.self.inside.kept c.self.inside.order c.args.self.now c.self.invariant c.self.view_is c.args.i c.requires

pub kept_at-requires : goal.kept_at-requires
kept_at-requires c = within_kept c.self.inside.kept c.self.inside.order c.args.self.now c.self.invariant c.self.view_is
    c.args.i c.standing_at-standing.result c.standing_at-standing.ensures

pub returns : goal.returns
returns c = shown_at c.self.inside.kept c.self.inside.order c.args.self.now c.self.invariant c.self.view_is c.args.i
    c.standing_at-standing.result c.kept_at.result.now c.standing_at-standing.ensures c.kept_at.ensures
