use Rattle.signal_trace.specs.Table.{AreLasts}
use Rattle.signal_trace.proofs.table.lasts_of.Given as goal

abbrev pub invariant-loop-place : goal.invariant-loop-place
invariant-loop-place l = AreLasts l.place l.rows l.lasts
