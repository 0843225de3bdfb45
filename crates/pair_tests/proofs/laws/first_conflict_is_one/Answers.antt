use Rattle.pair_tests.proofs.Conflicting.{first_is_one}
use Rattle.pair_tests.proofs.laws.first_conflict_is_one.Goals as goal

pub returns : goal.returns
returns c = λ first later b d p q. first_is_one first later b d p q
