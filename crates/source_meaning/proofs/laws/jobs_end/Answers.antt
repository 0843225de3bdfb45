use Rattle.source_meaning.proofs.Budget.{job_over}
use Rattle.source_meaning.proofs.laws.jobs_end.Goals as goal

pub returns : goal.returns
returns c = job_over
