use Rattle.std.proofs.Common.{length}
use Rattle.certificate_text.proofs.Stated.{Read}
use Rattle.certificate_text.proofs.read.read_facts.Given as goal

abbrev pub invariant-loop-fact : goal.invariant-loop-fact
invariant-loop-fact l = Read l.fn.version l.shape l.text l.rest l.facts l.number

abbrev pub decreases-loop-fact : goal.decreases-loop-fact
decreases-loop-fact l = length l.rest
