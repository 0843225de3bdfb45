use Rattle.kept_summaries.proofs.Comparing.{same_accesses}
use Rattle.kept_summaries.proofs.equal.are_accesses.Goals as goal

pub returns : goal.returns
returns c = same_accesses c.args.some.now c.args.others.now c.as_slice.result.now c.as_slice-2.result.now c.eq.result
    c.as_slice.ensures c.as_slice-2.ensures c.eq.ensures
