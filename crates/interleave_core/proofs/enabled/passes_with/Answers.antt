use Rattle.interleave_core.proofs.Enabling.{follows_by}
use Rattle.interleave_core.proofs.enabled.passes_with.Goals as goal

pub returns : goal.returns
returns c = follows_by c.args.checked.now c.args.first.now c.args.later.now c.may_follow.result c.may_follow.ensures.exact
