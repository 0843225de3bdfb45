use Rattle.kept_summaries.proofs.Comparing.{same_summaries}
use Rattle.kept_summaries.proofs.equal.are_equal.Goals as goal

pub returns : goal.returns
returns c =
    same_summaries c.args.one.now c.args.other.now c.is_level.result c.is_fault.result c.are_levels.result c.are_accesses.result
    c.is_level.ensures c.is_fault.ensures c.are_levels.ensures c.are_accesses.ensures
