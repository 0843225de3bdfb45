use Rattle.certificate_faults.specs.Returned.{given_about}
use Rattle.certificate_faults.proofs.Lowered.{Lowers}
use Rattle.certificate_faults.proofs.missing.lowest_of_points.Given as goal

abbrev pub invariant-loop-fact : goal.invariant-loop-fact
invariant-loop-fact g l = Lowers (g.K.KnownFacts.knows l.known)
    (given_about l.exchange l.table (g.K.KnownFacts.knows l.known)) l.reached l.fn.first l.fact-index l.least
