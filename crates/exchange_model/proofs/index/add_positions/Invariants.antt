use Rattle.exchange_model.proofs.Indexed.{PositionsListed}
use Rattle.exchange_model.proofs.index.add_positions.Given as goal

abbrev pub invariant-loop-place : goal.invariant-loop-place
invariant-loop-place l = PositionsListed l.block l.first l.files l.fn.positions l.positions l.place l.cell
