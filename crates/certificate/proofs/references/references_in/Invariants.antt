use Rattle.certificate.proofs.Counts.{BlocksGo}
use Rattle.certificate.proofs.references.references_in.Given as goal

abbrev pub invariant-loop-block : goal.invariant-loop-block
invariant-loop-block l = BlocksGo l.blocks l.block-index l.count
