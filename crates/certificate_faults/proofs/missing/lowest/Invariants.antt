use Rattle.answer_table.specs.Answers.{IsFact}
use Rattle.certificate_faults.proofs.Lowered.{Lowers}
use Rattle.certificate_faults.proofs.missing.lowest.Given as goal

abbrev pub invariant-loop-fact : goal.invariant-loop-fact
invariant-loop-fact g l = Lowers (g.K.KnownFacts.knows l.known) IsFact l.given l.fn.first l.fact-index l.least
