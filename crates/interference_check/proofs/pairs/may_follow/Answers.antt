use Rattle.interference_check.proofs.Following.{makes, runs}
use Rattle.interference_check.proofs.pairs.may_follow.Goals as goal

pub returns-clause-together : goal.returns-clause-together
returns-clause-together c = λ yes x s kept checked valid first_fits later_fits.
    runs c.args.checked.now c.summary-one.result.now c.summary-other.result.now c.args.first.now c.args.later.now
    c.summary-one.ensures.it c.summary-other.ensures.it (c.passes.ensures.0 yes) x kept checked s valid first_fits later_fits

pub returns-clause-way : goal.returns-clause-way
returns-clause-way c = λ yes x kept checked is_job.
    makes c.args.checked.now c.summary-one.result.now c.summary-other.result.now c.args.first.now c.args.later.now
    c.summary-one.ensures.it c.summary-other.ensures.it (c.passes.ensures.0 yes) x kept checked is_job
