use Rattle.std.proofs.Common.{Contains}
use Rattle.flow_points.proofs.Least.{least_closed}
use Rattle.flow_points.specs.Facts.{IsLeast}
use Rattle.fault_laws.proofs.Faulting.{job_told, steps_told}
use Rattle.fault_laws.proofs.laws.faults_are_told.Goals as goal

pub returns-clause-steps : goal.returns-clause-steps
returns-clause-steps c = λ x facts start store n f point kept closed is_job fits over. steps_told x kept
    (Contains facts) closed start store is_job fits n f point over

pub returns-clause-job : goal.returns-clause-job
returns-clause-job c = λ x facts start store f point kept closed is_job fits over. job_told x kept (Contains facts) closed start store is_job fits f point over

pub returns-clause-least : goal.returns-clause-least
returns-clause-least c = λ x start store n f point kept is_job fits over. steps_told x kept (IsLeast x) (least_closed x) start store is_job fits n f point over

pub returns-clause-least_job : goal.returns-clause-least_job
returns-clause-least_job c = λ x start store f point kept is_job fits over. job_told x kept (IsLeast x) (least_closed x) start store is_job fits f point over

pub returns-clause-summary : goal.returns-clause-summary
returns-clause-summary c = λ x facts start store m f point kept closed is_job fits is over. is.fault.1
    (job_told x kept (Contains facts) closed start store is_job fits f point over)

pub returns-clause-least_summary : goal.returns-clause-least_summary
returns-clause-least_summary c = λ x start store m f point kept is_job fits is over. is.fault.1
    (job_told x kept (IsLeast x) (least_closed x) start store is_job fits f point over)
