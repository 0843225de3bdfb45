use Rattle.certificate_faults.specs.Returned.{WaySends}
use Rattle.certificate_faults.proofs.Lowered.{Lowers}
use Rattle.certificate_faults.proofs.missing.lowest_of_ways.Given as goal

abbrev pub invariant-loop-way : goal.invariant-loop-way
invariant-loop-way g l = Lowers (g.K.KnownFacts.knows l.known)
    (WaySends l.exchange (g.K.KnownFacts.knows l.known) l.fact.entry l.fact.point) l.ways l.fn.first l.way-index l.least
