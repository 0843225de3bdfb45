use Rattle.std.proofs.Common.{◌≡◌, map, take}
use Rattle.signal_trace.specs.Table.{row_of}
use Rattle.signal_trace.proofs.table.rows_of.Given as goal

abbrev pub invariant-loop-show : goal.invariant-loop-show
invariant-loop-show l = l.rows ≡ map row_of (take l.show-index l.shows)
