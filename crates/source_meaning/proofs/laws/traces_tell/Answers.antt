use Rattle.source_meaning.proofs.Growing.{step_grows, job_store, job_told}
use Rattle.source_meaning.proofs.laws.traces_tell.Goals as goal

pub returns-clause-grows : goal.returns-clause-grows
returns-clause-grows c = step_grows

pub returns-clause-store : goal.returns-clause-store
returns-clause-store c = job_store

pub returns-clause-loads : goal.returns-clause-loads
returns-clause-loads c = job_told
