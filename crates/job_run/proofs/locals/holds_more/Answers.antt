use Rattle.job_run.proofs.Keeping.{few_used}
use Rattle.job_run.proofs.locals.holds_more.Goals as goal

pub returns : goal.returns
returns c = few_used c.args.values.now c.lanes.result c.lanes-2.result c.lanes.ensures c.lanes-2.ensures c.requires
