use Rattle.listing.proofs.Once.{one_code}
use Rattle.listing.proofs.laws.text_has_one_code.Goals as goal

pub returns : goal.returns
returns c = one_code
