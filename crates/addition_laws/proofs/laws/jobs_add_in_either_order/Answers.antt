use Rattle.std.proofs.Common.{Contains}
use Rattle.addition_laws.proofs.Ordering.{either_order}
use Rattle.addition_laws.proofs.Permitting.{permitted_order}
use Rattle.addition_laws.proofs.laws.jobs_add_in_either_order.Goals as goal

pub returns-clause-touches : goal.returns-clause-touches
returns-clause-touches c = λ x facts a b d s ending kept closed first_job later_job fits first_only later_only apart.
    either_order x kept (Contains facts) closed d s fits a b ending first_job later_job first_only later_only apart

pub returns-clause-permits : goal.returns-clause-permits
returns-clause-permits c = λ x facts s first later a b d kept closed valid first_fits later_fits first_told later_told
    first_only later_only share. permitted_order x (Contains facts) s first later a b d kept closed valid first_fits
    later_fits first_told later_told first_only later_only share
