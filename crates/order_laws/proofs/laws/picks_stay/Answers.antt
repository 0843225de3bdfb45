use Rattle.order_laws.proofs.Picking.{end_all_stay, end_stays, retire_all_stay, retire_stays}
use Rattle.order_laws.proofs.Releasing.{spares}
use Rattle.order_laws.proofs.laws.picks_stay.Goals as goal

pub returns-clause-lets : goal.returns-clause-lets
returns-clause-lets c = λ start done later behind goes other. record
    { sends = behind; outcome = spares later.forlopp start.job.forlopp done.outcome goes other }

pub returns-clause-one : goal.returns-clause-one
returns-clause-one c = retire_stays

pub returns-clause-ended : goal.returns-clause-ended
returns-clause-ended c = end_stays

pub returns-clause-all : goal.returns-clause-all
returns-clause-all c = retire_all_stay

pub returns-clause-all_ended : goal.returns-clause-all_ended
returns-clause-all_ended c = end_all_stay
