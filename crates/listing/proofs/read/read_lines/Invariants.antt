use Rattle.std.proofs.Common.{length}
use Rattle.listing.proofs.FirstLines.{Read}
use Rattle.listing.proofs.read.read_lines.Given as goal

abbrev pub invariant-loop-line : goal.invariant-loop-line
invariant-loop-line l = Read l.text l.rest l.ops l.entries l.number

abbrev pub decreases-loop-line : goal.decreases-loop-line
decreases-loop-line l = length l.rest
