use Rattle.entry_faults.proofs.Sending.{SendsGo}
use Rattle.entry_faults.proofs.sends.too_many_sends.Given as goal

abbrev pub invariant-loop-at : goal.invariant-loop-at
invariant-loop-at g l = SendsGo l.exchange (g.K.KnownFacts.knows l.known) l.entry l.places l.at-index l.sends
