use Rattle.order_laws.proofs.Arriving.{arrivals_idle, arrivals_keep, arrivals_quiet}
use Rattle.order_laws.proofs.Arriving.{arrivals_settle, arrivals_stopped}
use Rattle.order_laws.proofs.laws.arrivals_keep_the_order.Goals as goal

pub returns-clause-quiet : goal.returns-clause-quiet
returns-clause-quiet c = arrivals_quiet

pub returns-clause-stopped : goal.returns-clause-stopped
returns-clause-stopped c = arrivals_stopped

pub returns-clause-kept : goal.returns-clause-kept
returns-clause-kept c = arrivals_keep

pub returns-clause-idle : goal.returns-clause-idle
returns-clause-idle c = arrivals_idle

pub returns-clause-settled : goal.returns-clause-settled
returns-clause-settled c = arrivals_settle
