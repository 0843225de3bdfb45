use Rattle.std.proofs.Common.{◌≡◌, ◌++◌, length}
use Rattle.certificate_text.specs.Text.{facts_text}
use Rattle.certificate.proofs.certified_text.add_facts.Given as goal

abbrev pub invariant-loop-rest : goal.invariant-loop-rest
invariant-loop-rest l = l.text ++ facts_text l.rest ≡ l.fn.text ++ facts_text l.facts

abbrev pub decreases-loop-rest : goal.decreases-loop-rest
decreases-loop-rest l = length l.rest
