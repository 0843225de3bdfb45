use Rattle.interference_check.proofs.Parting.{permits_apart}
use Rattle.interference_check.proofs.laws.permits_of_two_are_apart.Goals as goal

pub returns : goal.returns
returns c = λ x s first later a b p q own of_first of_later. permits_apart x s first later a b p q own of_first of_later
