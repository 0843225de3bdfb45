use Rattle.std.proofs.Common.{length}
use Rattle.listing.proofs.Words.{Goes}
use Rattle.listing.proofs.parts.operands.Given as goal

abbrev pub invariant-loop-word : goal.invariant-loop-word
invariant-loop-word l = Goes l.bytes l.rest l.operands.items

abbrev pub decreases-loop-word : goal.decreases-loop-word
decreases-loop-word l = length l.rest
