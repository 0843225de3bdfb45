use Rattle.kept_summaries.proofs.Comparing.{same_levels}
use Rattle.kept_summaries.proofs.equal.are_levels.Goals as goal

pub returns : goal.returns
returns c = same_levels c.args.some.now c.args.others.now c.as_slice.result.now c.as_slice-2.result.now c.eq.result
    c.as_slice.ensures c.as_slice-2.ensures c.eq.ensures
