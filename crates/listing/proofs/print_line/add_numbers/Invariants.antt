use Rattle.std.proofs.Common.{◌≡◌, ◌++◌, map, take, decimal}
use Rattle.std.specs.List.{flat_map}
use Rattle.listing.specs.Listing.{spaced}
use Rattle.listing.proofs.print_line.add_numbers.Given as goal

abbrev pub invariant-loop-number : goal.invariant-loop-number
invariant-loop-number l = l.text ≡ l.fn.text ++ flat_map spaced (map decimal (take l.number-index l.numbers))
