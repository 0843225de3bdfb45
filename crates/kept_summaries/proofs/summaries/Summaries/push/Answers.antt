use Rattle.kept_summaries.proofs.Placing.{kept_more, like_placed, new_placed, new_shown, same_kept}
use Rattle.kept_summaries.proofs.Placing.{same_placed}
use Rattle.kept_summaries.proofs.summaries.Summaries.push.Goals as goal

pub invariant_of-self : goal.invariant_of-self
invariant_of-self c = same_placed c.self.inside.kept c.self.inside.order c.push.new.self c.in_err-push.ensures c.self.invariant

pub invariant_of-self-in-Some : goal.invariant_of-self-in-Some
invariant_of-self-in-Some c = like_placed c.self.inside.kept c.self.inside.order c.push.new.self c.args.summary
    c.in-Some.standing c.self.invariant c.in-Some.ensures c.in_ok-push.ensures

pub invariant_of-self-in_err-push-2 : goal.invariant_of-self-in_err-push-2
invariant_of-self-in_err-push-2 c = same_kept c.self.inside.kept c.push-2.new.self c.self.inside.order c.in_err-push-2.ensures c.self.invariant

pub invariant_of-self-in_err-push-3 : goal.invariant_of-self-in_err-push-3
invariant_of-self-in_err-push-3 c =
    same_placed c.push-2.new.self c.self.inside.order c.push-3.new.self c.in_err-push-3.ensures
    (kept_more c.self.inside.kept c.push-2.new.self c.self.inside.order c.args.summary c.in_ok-push-2.ensures
    c.self.invariant)

pub invariant_of-self-2 : goal.invariant_of-self-2
invariant_of-self-2 c = new_placed c.self.inside.kept c.push-2.new.self c.self.inside.order c.push-3.new.self
    c.args.summary (record { place = c.len-place.result; first = c.len-first.result }) c.self.invariant
    c.in_ok-push-2.ensures c.len-place.ensures c.len-first.ensures c.in_ok-push-3.ensures

pub returns : goal.returns
returns c = new_shown c.self.inside.kept c.push-2.new.self c.self.inside.order c.push-3.new.self c.args.summary
    (record { place = c.len-place.result; first = c.len-first.result }) c.self.invariant c.in_ok-push-2.ensures
    c.len-place.ensures c.len-first.ensures c.in_ok-push-3.ensures c.args.self.now c.self.view_is
