use Rattle.order_laws.proofs.Picking.{picks_left, picks_more}
use Rattle.order_laws.proofs.laws.picks_go_on.Goals as goal

pub returns-clause-picked : goal.returns-clause-picked
returns-clause-picked c = picks_more

pub returns-clause-left : goal.returns-clause-left
returns-clause-left c = picks_left
