use Rattle.job_types.proofs.Touched.{stored-kept, stored-last}
use Rattle.job_types.proofs.laws.last_store_counts.Goals as goal

pub returns-clause-last : goal.returns-clause-last
returns-clause-last c = stored-last

pub returns-clause-none : goal.returns-clause-none
returns-clause-none c = stored-kept
