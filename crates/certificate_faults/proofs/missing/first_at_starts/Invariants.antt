use Rattle.certificate_faults.proofs.Lowered.{Starts}
use Rattle.certificate_faults.proofs.missing.first_at_starts.Given as goal

abbrev pub invariant-loop-entry : goal.invariant-loop-entry
invariant-loop-entry g l = Starts l.exchange (g.K.KnownFacts.knows l.known) l.entry l.least
