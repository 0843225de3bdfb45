use Rattle.std.proofs.Common.{sym, ◌∙◌}
use Rattle.text_parts.proofs.Placing.{again_shown}
use Rattle.text_parts.proofs.parts.Parts.again.Goals as goal

pub returns : goal.returns
returns c =
    again_shown c.self.inside.kept c.self.inside.order c.push.new.self c.args.i c.in-Some.place
    (sym c.place_at.ensures ∙ c.in-Some.is) c.in_ok-push.ensures c.args.self.now c.self.view_is
