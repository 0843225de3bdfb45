use Rattle.listing.proofs.Printed.{Told}
use Rattle.listing.proofs.print.add_entries.Given as goal

abbrev pub invariant-loop-i : goal.invariant-loop-i
invariant-loop-i l = Told l.entries l.fn.text l.i l.text
