use Rattle.listing.proofs.Once.{one_spelling}
use Rattle.listing.proofs.laws.code_has_one_listing.Goals as goal

pub returns : goal.returns
returns c = one_spelling
