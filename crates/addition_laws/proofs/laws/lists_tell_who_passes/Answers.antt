use Rattle.std.proofs.Common.{Contains}
use Rattle.addition_laws.proofs.Listing.{lists_tell}
use Rattle.addition_laws.proofs.laws.lists_tell_who_passes.Goals as goal

pub returns : goal.returns
returns c = λ x facts first later one other a b d e shared kept first_told later_told first_adds later_adds both
    of_first of_later. lists_tell x kept (Contains facts) first later one other a b d e shared first_told later_told
    first_adds later_adds both of_first of_later
