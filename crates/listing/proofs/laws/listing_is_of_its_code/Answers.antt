use Rattle.listing.proofs.Once.{own_listing}
use Rattle.listing.proofs.laws.listing_is_of_its_code.Goals as goal

pub returns : goal.returns
returns c = own_listing
