use Rattle.text_parts.proofs.Placing.{added_shown}
use Rattle.text_parts.proofs.parts.Parts.add.Goals as goal

pub returns : goal.returns
returns c =
    added_shown c.self.inside.kept c.push.new.self c.self.inside.order c.push-2.new.self c.args.part c.len-place.result
    c.self.invariant c.len-place.ensures c.in_ok-push.ensures c.in_ok-push-2.ensures c.args.self.now c.self.view_is
