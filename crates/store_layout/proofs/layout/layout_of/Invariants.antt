use Rattle.store_layout.proofs.Laying.{Laid}
use Rattle.store_layout.proofs.layout.layout_of.Given as goal

abbrev pub invariant-loop-block : goal.invariant-loop-block
invariant-loop-block l = Laid l.blocks l.files l.cells l.block-index l.exchange.blocks
