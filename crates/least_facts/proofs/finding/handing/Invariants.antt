use Rattle.std.proofs.Common.{◌≡◌}
use Rattle.least_facts.specs.Growing.{handing_of}
use Rattle.least_facts.proofs.finding.handing.Given as goal

abbrev pub invariant-loop-k : goal.invariant-loop-k
invariant-loop-k l = l.values ≡ handing_of l.k
