use Rattle.pair_laws.proofs.Apart.{first_alone, later_alone}
use Rattle.pair_laws.proofs.Touching.{lists_past}
use Rattle.pair_laws.proofs.laws.touches_are_apart.Goals as goal

pub returns-clause-apart : goal.returns-clause-apart
returns-clause-apart c = λ x facts s first later a b ts us h p q.
    (first_alone x facts s first later a b h ts us p q, later_alone x facts s first later a b h ts us p q)

pub returns-clause-order : goal.returns-clause-order
returns-clause-order c = λ ts us store alone. lists_past ts us store alone
