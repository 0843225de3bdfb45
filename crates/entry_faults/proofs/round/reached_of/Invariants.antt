use Rattle.entry_faults.proofs.Rounding.{ReachedGo}
use Rattle.entry_faults.proofs.round.reached_of.Given as goal

abbrev pub invariant-loop-at : goal.invariant-loop-at
invariant-loop-at g l = ReachedGo (g.K.KnownFacts.knows l.known) l.entry l.places l.at-index l.reached
