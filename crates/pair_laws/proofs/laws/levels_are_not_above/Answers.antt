use Rattle.pair_laws.proofs.Apart.{not_above}
use Rattle.pair_laws.proofs.laws.levels_are_not_above.Goals as goal

pub returns : goal.returns
returns c = λ x facts s first later a b level h there. not_above x facts s first later a b h level there
