use Rattle.source_meaning.proofs.Ranged.{job_in_range, steps_in_range}
use Rattle.source_meaning.proofs.laws.jobs_stay_in_range.Goals as goal

pub returns-clause-steps : goal.returns-clause-steps
returns-clause-steps c = λ x n start store kept is fits. steps_in_range x kept n start store is fits

pub returns-clause-job : goal.returns-clause-job
returns-clause-job c = λ x start store kept is fits. job_in_range x kept start store is fits
