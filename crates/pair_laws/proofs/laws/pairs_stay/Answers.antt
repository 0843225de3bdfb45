use Rattle.pair_laws.proofs.Pairing.{pair_stays}
use Rattle.pair_laws.proofs.laws.pairs_stay.Goals as goal

pub returns : goal.returns
returns given = λ x facts s first second third a b c g h pair k. pair_stays x facts s first second third a b c g h pair k
