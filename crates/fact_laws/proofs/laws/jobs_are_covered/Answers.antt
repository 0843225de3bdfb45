use Rattle.std.proofs.Common.{Contains}
use Rattle.flow_points.proofs.Least.{least_closed}
use Rattle.flow_points.specs.Facts.{IsLeast}
use Rattle.fact_laws.proofs.Covering.{steps_covered, steps_known}
use Rattle.fact_laws.proofs.laws.jobs_are_covered.Goals as goal

pub returns-clause-steps : goal.returns-clause-steps
returns-clause-steps c = λ x facts start store n kept closed job fits going. steps_covered x kept (Contains facts) closed start store job fits n going

pub returns-clause-next : goal.returns-clause-next
returns-clause-next c = λ x facts start store n i rest kept closed job fits going is. steps_known x kept
    (Contains facts) closed start store job fits n going i rest is

pub returns-clause-least : goal.returns-clause-least
returns-clause-least c = λ x start store n kept job fits going. steps_covered x kept (IsLeast x) (least_closed x) start store job fits n going

pub returns-clause-least_next : goal.returns-clause-least_next
returns-clause-least_next c = λ x start store n i rest kept job fits going is. steps_known x kept (IsLeast x)
    (least_closed x) start store job fits n going i rest is
