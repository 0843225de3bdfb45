use Rattle.exchange_model.proofs.Indexed.{FirstsListed}
use Rattle.exchange_model.proofs.index.firsts_of.Given as goal

abbrev pub invariant-loop-block : goal.invariant-loop-block
invariant-loop-block l = FirstsListed l.blocks l.firsts l.block-index l.cell
