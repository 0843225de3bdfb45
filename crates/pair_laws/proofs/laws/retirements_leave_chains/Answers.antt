use Rattle.pair_laws.proofs.Apart.{chains_left}
use Rattle.pair_laws.proofs.laws.retirements_leave_chains.Goals as goal

pub returns : goal.returns
returns c = λ x facts s t first later a b done h d same. chains_left x facts s first later a b done h d t same
