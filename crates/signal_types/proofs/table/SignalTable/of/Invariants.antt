use Rattle.std.specs.Str.{bytes_eq}
use Rattle.indexmap.specs.IndexMap.{get}
use Rattle.signal_types.proofs.Found.{Tabled}
use Rattle.signal_types.proofs.table.SignalTable.of.Given as goal

abbrev pub invariant-loop-kind : goal.invariant-loop-kind
invariant-loop-kind l = Tabled (get bytes_eq l.numbers) l.kinds l.number l.kind-index
