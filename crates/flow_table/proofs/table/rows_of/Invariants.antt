use Rattle.flow_table.specs.Rows.{AreSlotsOf}
use Rattle.flow_table.proofs.Rowing.{RowsGo}
use Rattle.flow_table.proofs.table.rows_of.Given as goal

abbrev pub invariant-loop-at : goal.invariant-loop-at
invariant-loop-at l = RowsGo l.exchange l.places l.at-index l.rows × AreSlotsOf l.exchange l.slots
