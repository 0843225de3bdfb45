use Rattle.std.proofs.Common.{Contains}
use Rattle.flow_points.proofs.Least.{least_closed}
use Rattle.flow_points.specs.Facts.{IsLeast}
use Rattle.addition_laws.proofs.Going.{steps_alike, job_alike}
use Rattle.addition_laws.proofs.laws.jobs_add_as_much_to_other_words.Goals as goal

pub returns-clause-steps : goal.returns-clause-steps
returns-clause-steps c = λ x facts start d more s t n kept closed is_job fits only words. steps_alike x kept
    (Contains facts) closed start is_job s fits d only more t words n

pub returns-clause-job : goal.returns-clause-job
returns-clause-job c = λ x facts start d more s t kept closed is_job fits only words. job_alike x kept (Contains facts)
    closed start is_job s fits d only more t words

pub returns-clause-least : goal.returns-clause-least
returns-clause-least c = λ x start d more s t kept is_job fits only words. job_alike x kept (IsLeast x) (least_closed x) start is_job s fits d only more t words
