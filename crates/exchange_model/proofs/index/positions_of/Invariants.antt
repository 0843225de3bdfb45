use Rattle.exchange_model.proofs.Indexed.{AllListed}
use Rattle.exchange_model.proofs.index.positions_of.Given as goal

abbrev pub invariant-loop-number : goal.invariant-loop-number
invariant-loop-number l = AllListed l.blocks l.positions l.number l.cell
