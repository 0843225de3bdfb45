use Rattle.std.proofs.Common.{◌≡◌, take}
use Rattle.plex_num.proofs.values.Values.copy.Given as goal

abbrev pub invariant-loop-number : goal.invariant-loop-number
invariant-loop-number l = l.made ≡ take l.number-index l.number-items
