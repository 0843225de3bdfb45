use Rattle.entry_faults.proofs.Faulting.{MissesGo}
use Rattle.entry_faults.proofs.statement.some_miss.Given as goal

abbrev pub invariant-loop-pointer : goal.invariant-loop-pointer
invariant-loop-pointer g l = MissesGo l.exchange (g.K.KnownFacts.knows l.known) l.entry l.point l.pointers l.pointer-index
