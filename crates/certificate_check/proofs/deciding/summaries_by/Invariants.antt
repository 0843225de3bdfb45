use Rattle.std.specs.List.{Contains}
use Rattle.certificate_check.proofs.Summing.{Summed}
use Rattle.certificate_check.proofs.deciding.summaries_by.Given as goal

abbrev pub invariant-loop-entry : goal.invariant-loop-entry
invariant-loop-entry l = Summed l.exchange (Contains l.known) l.entry l.summaries
