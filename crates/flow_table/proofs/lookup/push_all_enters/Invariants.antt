use Rattle.flow_table.proofs.Entering.{EntersGo}
use Rattle.flow_table.proofs.lookup.push_all_enters.Given as goal

abbrev pub invariant-loop-number : goal.invariant-loop-number
invariant-loop-number l = EntersGo l.exchange l.signal l.count l.fn.points l.number l.points
