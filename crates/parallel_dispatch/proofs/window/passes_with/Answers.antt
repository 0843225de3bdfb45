use Rattle.std.proofs.Common.{subst}
use Rattle.interleave_core.specs.Allowed.{MayFollow}
use Rattle.parallel_dispatch.proofs.Passing.{passes_by}
use Rattle.parallel_dispatch.proofs.window.passes_with.Goals as goal

pub returns-clause-passes : goal.returns-clause-passes
returns-clause-passes g c = λ t.
    subst (λ s. MayFollow c.args.pairs.now s c.args.later.now) c.start.ensures
    (passes_by c.args.pairs.now c.start.result.now c.args.later.now c.may_follow.result c.may_follow.ensures.exact t)
