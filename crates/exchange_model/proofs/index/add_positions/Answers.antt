use Rattle.exchange_model.proofs.Indexed.{positions_more}
use Rattle.exchange_model.proofs.index.add_positions.Goals as goal

pub loop-place-preserved : goal.loop-place-preserved
loop-place-preserved c =
    positions_more c.args.block c.args.first c.args.files.now c.args.positions.now c.loop-place.positions
    c.push.new.self c.loop-place.place c.loop-place.cell c.cells-cell.result c.index-files-place.result
    c.loop-place-test.true c.index-files-place.is c.in_ok-push.ensures c.cells-cell.ensures c.loop-place.invariant
