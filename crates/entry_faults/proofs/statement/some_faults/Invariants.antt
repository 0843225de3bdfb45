use Rattle.entry_faults.proofs.Faulting.{FaultsGo}
use Rattle.entry_faults.proofs.statement.some_faults.Given as goal

abbrev pub invariant-loop-at : goal.invariant-loop-at
invariant-loop-at g l = FaultsGo l.exchange (g.K.KnownFacts.knows l.known) l.entry l.places l.at-index
