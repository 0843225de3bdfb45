use Rattle.std.proofs.Common.{Contains}
use Rattle.flow_points.proofs.Least.{least_closed}
use Rattle.flow_points.specs.Facts.{IsLeast}
use Rattle.permit_laws.proofs.Stepping.{steps_stay, job_stays}
use Rattle.permit_laws.proofs.laws.touches_are_permitted.Goals as goal

pub returns-clause-steps : goal.returns-clause-steps
returns-clause-steps c = λ x facts m s start n kept closed valid fits summary. (steps_stay x kept (Contains facts) closed m s valid start fits summary n).0

pub returns-clause-job : goal.returns-clause-job
returns-clause-job c = λ x facts m s start kept closed valid fits summary. (job_stays x kept (Contains facts) closed m s valid start fits summary).0

pub returns-clause-least : goal.returns-clause-least
returns-clause-least c = λ x m s start n kept valid fits summary. (steps_stay x kept (IsLeast x) (least_closed x) m s valid start fits summary n).0
