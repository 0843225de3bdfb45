use Rattle.pair_laws.proofs.Leaving.{job_leaves}
use Rattle.pair_laws.proofs.laws.jobs_leave_what_they_may.Goals as goal

pub returns : goal.returns
returns c = λ x facts s m start kept valid fits told keeps. job_leaves x facts s m start kept valid fits told keeps
