use Rattle.order_laws.proofs.Starting.{next_over}
use Rattle.order_laws.proofs.Wording.{arrivals_over, retire_over}
use Rattle.order_laws.proofs.laws.words_are_apart.Goals as goal

pub returns-clause-retired : goal.returns-clause-retired
returns-clause-retired c = retire_over

pub returns-clause-arrived : goal.returns-clause-arrived
returns-clause-arrived c = arrivals_over

pub returns-clause-next : goal.returns-clause-next
returns-clause-next c = next_over
