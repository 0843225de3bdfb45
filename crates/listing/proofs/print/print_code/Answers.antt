use Rattle.listing.proofs.Printed.{listing_told}
use Rattle.listing.proofs.print.print_code.Goals as goal

pub returns : goal.returns
returns c =
    listing_told c.args.code.now c.entries.result.now c.ops.result.now c.listing.result c.entries.ensures c.ops.ensures
    c.requires c.listing.ensures.told c.listing.ensures.numbers c.listing.ensures.few
